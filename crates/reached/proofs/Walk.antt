-- Every event keeps the agreement of machine and history. An event that is not obeyed, a refusal and a query leave both as they were; a call that
-- asks, has its effect and tells goes through `ask`, its polls through `hear`; in each way the answer tells the history what the machine has
-- done. While a call waits root is held, and no other CPU's call has an effect. Assumes nothing.
use Rattle.std.proofs.Common.{◌≡◌, refl, sym, ap, ◌∙◌, subst, true, false, not, ◌&&◌, true≢false, List, ◌∷◌, ℕ, ◌%◌, ◌^◌, ltb, eqb, ℤ, pos, negsuc, ne_eqb, None, Some}
use Rattle.std.proofs.lemmas.Bool.{and_parts, not-true}
use Rattle.base.specs.Rules.{EPERM}
use Rattle.base.proofs.Tests.{fails, eq→eqb}
use Rattle.cell_record.specs.declared.CellConfig.{CellConfig}
use Rattle.cell_record.specs.CellRecord.{cell_of}
use Rattle.machine_state.specs.declared.CallKind.{CallKind}
use Rattle.machine_state.specs.declared.CallKind.TheVariants.{Disable, Create, Start, SetLoadable, Destroy}
use Rattle.machine_state.specs.declared.Stage.{Stage}
use Rattle.machine_state.specs.Machine.{Waiting}
use Rattle.machine_state.specs.declared.Answer.{Answer}
use Rattle.machine_state.specs.declared.Answer.TheVariants.{Code, Wait}
use Rattle.machine_state.specs.declared.Machine.{Machine}
use Rattle.machine_state.specs.declared.Stepped.{Stepped}
use Rattle.rules.specs.State.{comm_at, live, no_id, with_waiting, with_comm, answered, waited_for}
use Rattle.rules.specs.Unobeyed.{is_on}
use Rattle.rules.specs.Effects.{effect}
use Rattle.rules.specs.Create.{other_cell_locked}
use Rattle.rules.specs.Asking.{next_to_message, asks, every_cell, is_destroy, message, asking, telling, wait_for, finished, end_code, tell, carry_out, none_to_ask, ask, shutdown_request, reconfig_completed}
use Rattle.rules.proofs.Ids.{by-test}
use Rattle.history.specs.History.{Created, History, Ahead, has_come, come, cells_after, answered_by, smallest_free}
use Rattle.reached.proofs.Members.{chosen, passed}
use Rattle.reached.proofs.Table.{Table, table_of, same-comm, started-same, loadable-same}
use Rattle.reached.proofs.Sound.{Fits, IsCell}
use Rattle.reached.proofs.Settled.{Settled, after-create, after-destroy, after_disable, live-after}
use Rattle.reached.proofs.Ready.{Messaged, next-is}
use Rattle.system_record.specs.declared.SystemConfig.{SystemConfig}

-- ---- the agreement

-- the call whose effect is still to come, from the waiting call
unfoldable pub ahead_in : Waiting → Ahead
ahead_in None = None
ahead_in (Some (kind, stage)) = elim stage.telling [ true ↦ None | false ↦ Some (kind, stage.target) ]

-- a waiting call waits for a cell that may be messaged; while it asks, for one that it asks
pub record Awaits (t : Table) (kind : CallKind) (stage : Stage) : Type 0 where
  pub messaged : Messaged t stage.cell
  pub asked : stage.telling ≡ false → asks kind stage.target stage.cell ≡ true

abbrev pub WaitsWell : Table → Waiting → Type 0
WaitsWell t None = Unit {0}
WaitsWell t (Some (kind, stage)) = Awaits t kind stage

-- a call that asks a cell has not had its effect
pub not-come : (kind : CallKind) (target c : ℕ) → asks kind target c ≡ true → has_come kind target c ≡ false
unfolding has_come asks
not-come Disable target c e = refl
not-come Create target c e = sym e
not-come Start target c e = refl
not-come SetLoadable target c e = refl
not-come Destroy target c e = ap not e

module _ (boot : SystemConfig) where
  pub record Agrees (h : History) (m : Machine) : Type 0 where
    pub settled : Settled boot h.cells (table_of m)
    pub waits : WaitsWell (table_of m) m.waiting
    pub ahead : ahead_in m.waiting ≡ h.ahead
    pub waited : waited_for m.waiting ≡ h.waits_for

  -- a machine with the same table and the same waiting call
  pub agrees-still : (h : History) (m n : Machine) → table_of n ≡ table_of m → n.waiting ≡ m.waiting → Agrees h m → Agrees h n
  agrees-still h m n e w a = record {
    settled = subst (Settled boot h.cells) (sym e) a.settled;
    waits = subst (λ (t : Table). WaitsWell t n.waiting) (sym e) (subst (WaitsWell (table_of m)) (sym w) a.waits);
    ahead = ap ahead_in w ∙ a.ahead;
    waited = ap waited_for w ∙ a.waited;
  }

  abbrev settled_as : List Created → Ahead → ℕ → History
  settled_as cs ahead cell = record { cells = cs; ahead = ahead; waits_for = cell }

  -- a call waits for a cell, or has ended
  waiting-agrees : (cs : List Created) (kind : CallKind) (stage : Stage) (code : ℕ) (m : Machine) → Settled boot cs (table_of m) → Awaits (table_of m) kind stage
      → Agrees (settled_as cs (ahead_in (Some (kind, stage))) stage.cell) (wait_for kind stage code m).machine
  unfolding wait_for with_waiting with_comm message waited_for answered
  waiting-agrees cs kind stage code m s w =
      let e : table_of (with_comm stage.cell (message code (comm_at m stage.cell)) m) ≡ table_of m = same-comm stage.cell _ m refl (λ x. refl) in
      record {
        settled = subst (Settled boot cs) (sym e) s;
        waits = subst (λ (t : Table). Awaits t kind stage) (sym e) w;
        ahead = refl;
        waited = refl;
      }

  ended-agrees : (cs : List Created) (code : ℤ) (m : Machine) → Settled boot cs (table_of m) → Agrees (settled_as cs None 0) (finished code m).machine
  unfolding finished with_waiting ahead_in waited_for answered
  ended-agrees cs code m s = record { settled = s; waits = tt; ahead = refl; waited = refl }

  -- ---- a call that tells

  module _ (hist : Answer → History) where
    abbrev pub Agree : Stepped → Type 0
    Agree s = Agrees (hist s.answer) s.machine

    end-code : (kind : CallKind) (target : ℕ) (m : Machine) → ((n : ℕ) → Agree (finished (pos n) m)) → Agree (finished (end_code kind target) m)
    unfolding end_code
    end-code Disable target m f = f 0
    end-code Create target m f = f (target % 2 ^ 31)
    end-code Start target m f = f 0
    end-code SetLoadable target m f = f 0
    end-code Destroy target m f = f 0

    pub ends-well : (cs : List Created) (m : Machine) → Settled boot cs (table_of m) → ((n : ℕ) → hist (Code (pos n)) ≡ settled_as cs None 0)
        → (n : ℕ) → Agree (finished (pos n) m)
    unfolding finished answered
    ends-well cs m s e n = subst (λ (h : History). Agrees h (finished (pos n) m).machine) (sym (e n)) (ended-agrees cs (pos n) m s)

    pub tell-agrees : (cs : List Created) (kind : CallKind) (target after : ℕ) (m : Machine) → Settled boot cs (table_of m)
        → ((c : ℕ) → IsCell (table_of m) c → hist (Wait c) ≡ settled_as cs None c)
        → ((n : ℕ) → hist (Code (pos n)) ≡ settled_as cs None 0)
        → Agree (tell kind target after m)
    unfolding tell wait_for answered ahead_in
    tell-agrees cs kind target after m s w e =
        by-test Agree (ltb next no_id) (wait_for kind stage reconfig_completed m) (finished (end_code kind target) m)
        (λ l.
        let told : Messaged (table_of m) next = (next-is every_cell after m l).1 in
        subst (λ (h : History). Agrees h (wait_for kind stage reconfig_completed m).machine) (sym (w next told.cell))
        (waiting-agrees cs kind stage reconfig_completed m s (record { messaged = told; asked = λ q. absurd (true≢false q) })))
        (λ l. end-code kind target m (ends-well cs m s e))
      where
        next : ℕ
        next = next_to_message every_cell after m

        stage : Stage
        stage = telling target next 0

  -- ---- a call that asks, and its effect

  -- what the tables of refusals have shown
  abbrev pub Ready : CallKind → ℕ → CellConfig → List ℕ → List Created → Machine → Type 0
  Ready Disable target new bytes cs m = Unit {0}
  Ready Create target new bytes cs m = (new ≡ cell_of bytes) × (target ≡ smallest_free cs) × Fits (table_of m) target (cell_of bytes)
  Ready Start target new bytes cs m = Unit {0}
  Ready SetLoadable target new bytes cs m = Unit {0}
  Ready Destroy target new bytes cs m = IsCell (table_of m) target

  effect-settled : (kind : CallKind) (target : ℕ) (new : CellConfig) (bytes : List ℕ) (cs : List Created) (m : Machine) → Settled boot cs (table_of m)
      → is_on m.power ≡ true → Ready kind target new bytes cs m → Settled boot (cells_after kind target bytes cs) (table_of (effect kind target new m))
  unfolding effect cells_after
  effect-settled Disable target new bytes cs m s on r = after_disable boot cs m s
  effect-settled Create target new bytes cs m s on r =
      subst (λ (c : CellConfig). Settled boot (record { id = smallest_free cs; bytes = bytes } ∷ cs) (table_of (effect Create target c m))) (sym r.0)
      (subst (λ (id : ℕ). Settled boot (record { id = id; bytes = bytes } ∷ cs) (table_of (effect Create target (cell_of bytes) m))) r.1
      (after-create boot cs m target bytes s r.2 on))
  effect-settled Start target new bytes cs m s on r = subst (Settled boot cs) (sym (started-same target m s.sound.cpus-room)) s
  effect-settled SetLoadable target new bytes cs m s on r = subst (Settled boot cs) (sym (loadable-same target m s.sound.cpus-room)) s
  effect-settled Destroy target new bytes cs m s on r = after-destroy boot cs m target s r

  module _ (h : History) (bytes : List ℕ) (m : Machine) (s : Settled boot h.cells (table_of m)) (on : is_on m.power ≡ true) where
    abbrev hist : CallKind → ℕ → Answer → History
    hist kind target a = answered_by kind target bytes a h

    -- the target is gone after Destroy
    another : (target c : ℕ) (new : CellConfig) → IsCell (table_of m) target → IsCell (table_of (effect Destroy target new m)) c → c ≡ target → ⊥
    unfolding effect
    another target c new r l q =
        let gone : (not (eqb c target) && live m c) ≡ true = sym (live-after boot m target s.sound r c) ∙ l.lives in
        fails (not-true (eqb c target) (and_parts (not (eqb c target)) (live m c) gone).0) (eq→eqb c target q)

    carry-agrees : (kind : CallKind) (target : ℕ) (new : CellConfig) → Ready kind target new bytes h.cells m
        → Agree (hist kind target) (carry_out kind target new m)
    unfolding carry_out answered_by come has_come
    carry-agrees Disable target new r = ends-well (hist Disable target) _ _ (effect-settled Disable target new bytes h.cells m s on r) (λ n. refl) 0
    carry-agrees Create target new r =
        tell-agrees (hist Create target) _ Create target 0 _ (effect-settled Create target new bytes h.cells m s on r) (λ c l. refl) (λ n. refl)
    carry-agrees Start target new r = ends-well (hist Start target) _ _ (effect-settled Start target new bytes h.cells m s on r) (λ n. refl) 0
    carry-agrees SetLoadable target new r = ends-well (hist SetLoadable target) _ _ (effect-settled SetLoadable target new bytes h.cells m s on r) (λ n. refl) 0
    carry-agrees Destroy target new r =
        tell-agrees (hist Destroy target) _ Destroy target 0 _ (effect-settled Destroy target new bytes h.cells m s on r) (λ c l. chosen (come Destroy target bytes c h) _ (ap not (ne_eqb _ _ (another target c new r l)))) (λ n. refl)

    pub refused-agrees : (kind : CallKind) (target n : ℕ) → Agree (hist kind target) (finished (negsuc n) m)
    unfolding answered_by finished answered
    refused-agrees kind target n = ended-agrees h.cells (negsuc n) m s

    pub ask-agrees : (kind : CallKind) (target after : ℕ) (new : CellConfig) → Ready kind target new bytes h.cells m
        → Agree (hist kind target) (ask kind target after new m)
    unfolding ask none_to_ask wait_for answered answered_by ahead_in
    ask-agrees kind target after new r =
        by-test (Agree (hist kind target)) (ltb next no_id) (wait_for kind stage shutdown_request m) (none_to_ask kind target new m)
        (λ l.
        let asked : (asks kind target next ≡ true) × Messaged (table_of m) next = next-is (asks kind target) after m l in
        subst (λ (g : History). Agrees g (wait_for kind stage shutdown_request m).machine) (sym (passed _ _ (not-come kind target next asked.0)))
        (waiting-agrees h.cells kind stage shutdown_request m s (record { messaged = asked.1; asked = λ q. asked.0 })))
        (λ l.
        by-test (Agree (hist kind target)) (is_destroy kind && other_cell_locked target m) (finished EPERM m) (carry_out kind target new m)
        (λ q. refused-agrees kind target 0)
        (λ q. carry-agrees kind target new r))
      where
        next : ℕ
        next = next_to_message (asks kind target) after m

        stage : Stage
        stage = asking target next 0
