-- Every event keeps the agreement of machine and history: polls, calls, and the rest, each through its rows of words. Assumes nothing.
use Rattle.std.proofs.Common.{◌≡◌, refl, sym, ap, ap₂, ◌∙◌, subst, Bool, true, false, not, ◌&&◌, ◌||◌, true≢false, List, [], ℕ, leb, eqb, ℤ, pos, negsuc, eqb-true, None, Some}
use Rattle.std.proofs.lemmas.Bool.{both_ways, not-false, or_parts}
use Rattle.std.proofs.Math.Bool.{and-false}
use Rattle.base.specs.Rules.{first_rule, EPERM}
use Rattle.base.proofs.Rules.{by-rule, by-none}
use Rattle.base.proofs.Tests.{fails, eq→eqb}
use Rattle.cell_record.specs.declared.CellConfig.{CellConfig}
use Rattle.cell_record.specs.CellRecord.{cell_of}
use Rattle.machine_state.specs.declared.CallKind.{CallKind}
use Rattle.machine_state.specs.declared.CallKind.TheVariants.{Disable, Create, Start, SetLoadable, Destroy}
use Rattle.machine_state.specs.declared.Stage.{Stage}
use Rattle.machine_state.specs.Machine.{Waiting}
use Rattle.machine_state.specs.declared.Answer.{Answer}
use Rattle.machine_state.specs.declared.Answer.TheVariants.{Code, Wait, Done, Off, Bad, Stopped, Held, Denied, Idle}
use Rattle.machine_state.specs.declared.Machine.{Machine}
use Rattle.machine_state.specs.declared.Stepped.{Stepped}
use Rattle.rules.specs.State.{root_id, comm_at, cpu_at, live, waits, with_waiting, answered, waited_for}
use Rattle.rules.specs.Unobeyed.{is_on}
use Rattle.rules.specs.Create.{free_id}
use Rattle.rules.specs.Asking.{asks, finished, ask, consents, hear, with_polls, hears_at, heard_at, still_waits, poll_cell, poll}
use Rattle.rules.specs.Calls.{ends, disable_call, create_call, target_call, call_by_code, call}
use Rattle.rules.specs.Observer.{kind_of_code, target_of}
use Rattle.rules.specs.Answers.{is_negative}
use Rattle.rules.proofs.Ids.{by-test}
use Rattle.rules.proofs.Cases.{heard-cases}
use Rattle.history.specs.History.{Created, History, Ahead, has_come, come, cells_after, answered_by, after_call, after_telling, after_poll}
use Rattle.reached.proofs.Members.{chosen, passed}
use Rattle.reached.proofs.Table.{Table, table_of, cut-same}
use Rattle.reached.proofs.Sound.{Fits, IsCell}
use Rattle.reached.proofs.Settled.{Settled, same-free}
use Rattle.reached.proofs.Ready.{fits}
use Rattle.reached.proofs.Walk.{ahead_in, Awaits, WaitsWell, Agrees, Agree, Ready, tell-agrees, ask-agrees, refused-agrees, not-come}
use Rattle.system_record.specs.declared.SystemConfig.{SystemConfig}

module _ (boot : SystemConfig) where
  -- ---- polls

  -- what a poll is ready for: the cell that is asked is live
  poll-ready : (kind : CallKind) (target cell : ℕ) (new : CellConfig) (cs : List Created) (m : Machine) → IsCell (table_of m) cell → asks kind target cell ≡ true
      → Ready boot kind target new [] cs m
  unfolding asks
  poll-ready Disable target cell new cs m c e = tt
  poll-ready Create target cell new cs m c e = absurd (true≢false (sym e))
  poll-ready Start target cell new cs m c e = tt
  poll-ready SetLoadable target cell new cs m c e = tt
  poll-ready Destroy target cell new cs m c e = subst (IsCell (table_of m)) (eqb-true cell target e) c

  module _ (h : History) (m : Machine) (s : Settled boot h.cells (table_of m)) (on : is_on m.power ≡ true) (kind : CallKind) (stage : Stage) (new : CellConfig)
      (w : Awaits (table_of m) kind stage) where
    -- nothing is heard: the machine as it was, but for the count of polls
    unheard : (g : History) → g.cells ≡ h.cells → ahead_in (Some (kind, stage)) ≡ g.ahead → stage.cell ≡ g.waits_for → Agrees boot g (still_waits kind stage m)
    unfolding waited_for ahead_in still_waits with_polls with_waiting
    unheard g c a e = record {
      settled = subst (λ (l : List Created). Settled boot l (table_of m)) (sym c) s;
      waits = record { messaged = w.messaged; asked = w.asked };
      ahead = a;
      waited = e;
    }

    -- the machine on which the cell is heard has the same table
    abbrev heard : Machine
    heard = heard_at stage m

    same-table : table_of heard ≡ table_of m
    same-table = heard-cases (λ k. table_of k ≡ table_of m) stage m refl (cut-same stage.cell m s.sound.cpus-room)

    still-settled : Settled boot h.cells (table_of heard)
    still-settled = subst (Settled boot h.cells) (sym same-table) s

    still-on : is_on heard.power ≡ true
    still-on = ap (λ (t : Table). is_on t.power) same-table ∙ on

    poll-telling : stage.telling ≡ true → Agree boot (λ a. after_telling a h) (poll_cell kind stage new m)
    unfolding poll_cell hear answered after_telling ahead_in
    poll-telling t =
        by-test (Agree boot (λ a. after_telling a h)) (hears_at stage m) (hear kind stage new heard) (answered (Wait stage.cell) (still_waits kind stage m))
        (λ e. subst (Agree boot (λ a. after_telling a h)) (sym (chosen _ _ t)) (tell-agrees boot (λ a. after_telling a h) h.cells kind stage.target stage.cell heard still-settled (λ c l. refl) (λ n. refl)))
        (λ e. unheard _ refl (chosen _ _ t) refl)

    poll-asking : stage.telling ≡ false → Agree boot (λ a. answered_by kind stage.target [] a h) (poll_cell kind stage new m)
    unfolding poll_cell hear answered answered_by ahead_in
    poll-asking t =
        let asked : asks kind stage.target stage.cell ≡ true = w.asked t in
        let cell : IsCell (table_of heard) stage.cell = subst (λ (x : Table). IsCell x stage.cell) (sym same-table) w.messaged.cell in
        by-test (Agree boot hist) (hears_at stage m) (hear kind stage new heard) (answered (Wait stage.cell) (still_waits kind stage m))
        (λ e. subst (Agree boot hist) (sym (passed _ _ t))
        (by-test (Agree boot hist) (consents (comm_at heard stage.cell)) (ask kind stage.target stage.cell new heard) (finished EPERM heard)
        (λ c. ask-agrees boot h [] heard still-settled still-on kind stage.target stage.cell new (poll-ready kind stage.target stage.cell new h.cells heard cell asked))
        (λ c. refused-agrees boot h [] heard still-settled still-on kind stage.target 0)))
        (λ e. subst (λ (g : History). Agrees boot g (still_waits kind stage m)) (sym (passed _ _ (not-come kind stage.target stage.cell asked))) (unheard _ refl (passed _ _ t) refl))
      where
        hist : Answer → History
        hist a = answered_by kind stage.target [] a h

  pub poll-agrees : (h : History) (m : Machine) (new : CellConfig) → Agrees boot h m → is_on m.power ≡ true → (w : Waiting) → m.waiting ≡ w
      → Agree boot (λ a. after_poll h.ahead a h) (poll w new m)
  unfolding poll after_poll after_telling answered_by answered ahead_in
  poll-agrees h m new a on None e = subst (λ (x : Ahead). Agrees boot (after_poll x Idle h) m) a.ahead (idle (ahead_in m.waiting))
    where
      idle : (x : Ahead) → Agrees boot (after_poll x Idle h) m
      idle None = a
      idle (Some (kind, target)) = a
  poll-agrees h m new a on (Some (kind, stage)) e =
      subst (λ (x : Ahead). Agree boot (λ r. after_poll x r h) (poll_cell kind stage new m)) (sym (ap ahead_in e) ∙ a.ahead) (go stage.telling refl)
    where
      w : Awaits (table_of m) kind stage
      w = subst (WaitsWell (table_of m)) e a.waits

      go : (b : Bool) → stage.telling ≡ b → Agree boot (λ r. after_poll (ahead_in (Some (kind, stage))) r h) (poll_cell kind stage new m)
      go true t = subst (λ (x : Ahead). Agree boot (λ r. after_poll x r h) (poll_cell kind stage new m)) (sym (chosen _ _ t)) (poll-telling h m a.settled on kind stage new w t)
      go false t = subst (λ (x : Ahead). Agree boot (λ r. after_poll x r h) (poll_cell kind stage new m)) (sym (passed _ _ t)) (poll-asking h m a.settled on kind stage new w t)

  -- ---- calls

  -- the history after a call that goes on is that of its kind; a refused one leaves it as it was, with no call ahead
  idle-history : (h : History) → h.ahead ≡ None → h.waits_for ≡ 0 → ◌≡◌ {A = History} (record { cells = h.cells; ahead = None; waits_for = 0 }) h
  idle-history h a w = λ i. record { cells = h.cells; ahead = sym a i; waits_for = sym w i }

  module _ (h : History) (code a1 : ℕ) (bytes : List ℕ) where
    abbrev hist : Answer → History
    hist a = after_call code a1 bytes a h

    refused-keeps : (n : ℕ) → hist (Code (negsuc n)) ≡ h
    unfolding after_call is_negative
    refused-keeps n = passed _ _ (and-false (leb code 4))

    query-keeps : leb code 4 ≡ false → (a : Answer) → hist a ≡ h
    unfolding after_call
    query-keeps e a = passed _ _ (ap (λ (b : Bool). b && not (is_negative a)) e)

    same_kind : (kind : CallKind) → leb code 4 ≡ true → kind_of_code code ≡ kind → h.ahead ≡ None → h.waits_for ≡ 0
        → (a : Answer) → hist a ≡ answered_by kind (target_of kind a1) bytes a h
    unfolding after_call is_negative answered_by
    same_kind kind e k n w a = go (is_negative a) refl
      where
        refused : (b : Answer) → is_negative b ≡ true → h ≡ answered_by kind (target_of kind a1) bytes b h
        refused (Code (pos x)) r = absurd (true≢false (sym r))
        refused (Code (negsuc x)) r = sym (idle-history h n w)
        refused (Wait c) r = absurd (true≢false (sym r))
        refused Done r = absurd (true≢false (sym r))
        refused Off r = absurd (true≢false (sym r))
        refused Bad r = absurd (true≢false (sym r))
        refused Stopped r = absurd (true≢false (sym r))
        refused Held r = absurd (true≢false (sym r))
        refused Denied r = absurd (true≢false (sym r))
        refused Idle r = absurd (true≢false (sym r))

        go : (b : Bool) → is_negative a ≡ b → hist a ≡ answered_by kind (target_of kind a1) bytes a h
        go true r = passed _ _ (ap (λ (b : Bool). leb code 4 && not b) r ∙ and-false (leb code 4)) ∙ refused a r
        go false r =
            chosen _ _ (ap₂ (λ (b c : Bool). b && not c) e r) ∙ ap (λ (x : CallKind). answered_by x (target_of x a1) bytes a h) k

  -- the kinds of the codes
  kinds : (kind_of_code 0 ≡ Disable) × (kind_of_code 1 ≡ Create) × (kind_of_code 2 ≡ Start) × (kind_of_code 3 ≡ SetLoadable) × (kind_of_code 4 ≡ Destroy)
  unfolding kind_of_code first_rule
  kinds = (refl, refl, refl, refl, refl)

  -- Create's history does not look at a target
  create-target : (a b : ℕ) (bytes : List ℕ) (r : Answer) (h : History) → answered_by Create a bytes r h ≡ answered_by Create b bytes r h
  unfolding answered_by has_come come cells_after
  create-target a b bytes (Code (pos n)) h = refl
  create-target a b bytes (Code (negsuc n)) h = refl
  create-target a b bytes (Wait c) h = refl
  create-target a b bytes Done h = refl
  create-target a b bytes Off h = refl
  create-target a b bytes Bad h = refl
  create-target a b bytes Stopped h = refl
  create-target a b bytes Held h = refl
  create-target a b bytes Denied h = refl
  create-target a b bytes Idle h = refl

  module _ (h : History) (m : Machine) (a : Agrees boot h m) (cpu code a1 a2 : ℕ) (bytes : List ℕ) where
    abbrev P : Stepped → Type 0
    P = Agree boot (hist h code a1 bytes)

    -- a refusal at once
    at_once : (n : ℕ) → P (ends (negsuc n) m)
    unfolding answered
    at_once n = subst (λ (g : History). Agrees boot g m) (sym (refused-keeps h code a1 bytes n)) a

    query : leb code 4 ≡ false → (z : ℤ) → P (ends z m)
    unfolding answered
    query e z = subst (λ (g : History). Agrees boot g m) (sym (query-keeps h code a1 bytes e (Code z))) a

    past : (n : ℕ) → leb n 4 ≡ false → eqb code n ≡ true → leb code 4 ≡ false
    past n e q = ap (λ (x : ℕ). leb x 4) (eqb-true code n q) ∙ e

    -- codes 5 to 7 and above
    queries : leb code 4 ≡ false → P (call_by_code cpu code a1 a2 bytes m)
    unfolding call_by_code
    queries e =
        by-rule P _ _ _ (λ q. absurd (no_call 0 refl q))
        (λ q. by-rule P _ _ _ (λ q. absurd (no_call 1 refl q))
        (λ q. by-rule P _ _ _ (λ q. absurd (no_call 2 refl q))
        (λ q. by-rule P _ _ _ (λ q. absurd (no_call 3 refl q))
        (λ q. by-rule P _ _ _ (λ q. absurd (no_call 4 refl q))
        (λ q. by-rule P _ _ _ (λ q. query e _)
        (λ q. by-rule P _ _ _ (λ q. query e _)
        (λ q. by-rule P _ _ _ (λ q. query e _) (λ q. by-none P _ (query e _)))))))))
      where
        no_call : (n : ℕ) → leb n 4 ≡ true → eqb code n ≡ true → ⊥
        no_call n t q = both_ways _ e (ap (λ (x : ℕ). leb x 4) (eqb-true code n q) ∙ t)

    -- codes 0 to 4, of root with no call waiting
    module _ (on : is_on m.power ≡ true) (free : h.ahead ≡ None) (none : h.waits_for ≡ 0) where
      -- a call of a kind, whose code is n
      goes_on : (n : ℕ) (kind : CallKind) → eqb code n ≡ true → leb n 4 ≡ true → kind_of_code n ≡ kind → (r : Stepped)
          → Agree boot (λ x. answered_by kind (target_of kind a1) bytes x h) r → P r
      goes_on n kind q low k r g =
          subst (λ (x : History). Agrees boot x r.machine)
          (sym (same_kind h code a1 bytes kind (ap (λ (x : ℕ). leb x 4) code_is ∙ low) (ap kind_of_code code_is ∙ k) free none r.answer)) g
        where
          code_is : code ≡ n
          code_is = eqb-true code n q

      by-disable : eqb code 0 ≡ true → P (disable_call (cell_of bytes) m)
      unfolding disable_call target_of
      by-disable q = goes_on 0 Disable q refl kinds.0 _ (ask-agrees boot h bytes m a.settled on Disable 0 0 (cell_of bytes) tt)

      by-create : eqb code 1 ≡ true → P (create_call cpu bytes m)
      unfolding create_call
      by-create q =
          by-rule P _ _ _ (λ e. at_once _)
          (λ e. by-rule P _ _ _ (λ e. at_once _)
          (λ e. by-rule P _ _ _ (λ i. at_once _)
          (λ i. by-rule P _ _ _ (λ e. at_once _)
          (λ e. by-rule P _ _ _ (λ b. at_once _)
          (λ b. by-rule P _ _ _ (λ r. at_once _)
          (λ r. by-none P _ (goes_on 1 Create q refl kinds.1 (ask Create (free_id m) 0 (cell_of bytes) m) (created (fits m cpu bytes a.settled.sound i b r)))))))))
        where
          created : Fits (table_of m) (free_id m) (cell_of bytes) → Agree boot (λ x. answered_by Create (target_of Create a1) bytes x h) (ask Create (free_id m) 0 (cell_of bytes) m)
          created f =
              subst (λ (x : History). Agrees boot x (ask Create (free_id m) 0 (cell_of bytes) m).machine) (create-target (free_id m) (target_of Create a1) bytes _ h)
              (ask-agrees boot h bytes m a.settled on Create (free_id m) 0 (cell_of bytes) (refl, same-free boot h.cells m a.settled, f))

      -- Start, Set Loadable, Destroy: ready where the target is a live cell other than root
      by-target : (n : ℕ) (kind : CallKind) → eqb code n ≡ true → leb n 4 ≡ true → kind_of_code n ≡ kind → target_of kind a1 ≡ a1
          → (IsCell (table_of m) a1 → Ready boot kind a1 (cell_of bytes) bytes h.cells m) → P (target_call kind a1 (cell_of bytes) m)
      unfolding target_call
      by-target n kind q low k t ready =
          by-rule P _ _ _ (λ e. at_once _)
          (λ z. by-rule P _ _ _ (λ e. at_once _)
          (λ l. by-rule P _ _ _ (λ e. at_once _)
          (λ u. by-none P _
          (goes_on n kind q low k (ask kind a1 0 (cell_of bytes) m)
          (subst (λ (x : ℕ). Agree boot (λ r. answered_by kind x bytes r h) (ask kind a1 0 (cell_of bytes) m)) (sym t)
          (ask-agrees boot h bytes m a.settled on kind a1 0 (cell_of bytes)
          (ready (record { other = λ e. fails z (eq→eqb a1 0 e); lives = not-false (live m a1) l }))))))))

      pub root-calls : P (call_by_code cpu code a1 a2 bytes m)
      unfolding call_by_code target_of
      root-calls =
          by-rule P _ _ _ (λ q. by-disable q)
          (λ q. by-rule P _ _ _ (λ q. by-create q)
          (λ q. by-rule P _ _ _ (λ q. by-target 2 Start q refl kinds.2 refl (λ c. tt))
          (λ q. by-rule P _ _ _ (λ q. by-target 3 SetLoadable q refl kinds.3 refl (λ c. tt))
          (λ q. by-rule P _ _ _ (λ q. by-target 4 Destroy q refl kinds.4 refl (λ c. c))
          (λ q. by-rule P _ _ _ (λ q. query (past 5 refl q) _)
          (λ q. by-rule P _ _ _ (λ q. query (past 6 refl q) _)
          (λ q. by-rule P _ _ _ (λ q. query (past 7 refl q) _) (λ q. by-none P _ (at_once _)))))))))

    -- a call, counted: of root with no call waiting, or of another cell
    pub calls : is_on m.power ≡ true → (eqb (cpu_at m cpu).cell root_id && waits m.waiting) ≡ false → P (call cpu code a1 a2 bytes m)
    unfolding call ahead_in waited_for
    calls on held =
        by-rule P _ _ _ (λ e. at_once _)
        (λ e. by-rule P _ _ _ (λ e. at_once _) (λ e. by-none P _ (by-caller (eqb (cpu_at m cpu).cell root_id) refl e)))
      where
        not-waiting : (w : Waiting) → waits w ≡ false → (ahead_in w ≡ None) × (waited_for w ≡ 0)
        not-waiting None e = (refl, refl)
        not-waiting (Some (kind, stage)) e = absurd (true≢false e)

        by-caller : (b : Bool) → eqb (cpu_at m cpu).cell root_id ≡ b → (not (eqb (cpu_at m cpu).cell root_id) && (leb code 4 || eqb code 6)) ≡ false
            → P (call_by_code cpu code a1 a2 bytes m)
        by-caller true q e =
            let idle : (ahead_in m.waiting ≡ None) × (waited_for m.waiting ≡ 0) =
            not-waiting m.waiting (sym (ap (λ (b : Bool). b && waits m.waiting) q) ∙ held) in
            root-calls on (sym a.ahead ∙ idle.0) (sym a.waited ∙ idle.1)
        by-caller false q e = queries (or_parts (leb code 4) (eqb code 6) (sym (ap (λ (b : Bool). not b && (leb code 4 || eqb code 6)) q) ∙ e)).0
