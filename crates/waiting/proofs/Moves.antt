-- The rules move as the account does: asking, telling and hearing leave the answer, the waiting call and the machine that the account's move
-- says, as one equation. The rules' next cell and lock are those that the observer shows (Shown); after an effect that is followed by telling
-- the cells that may be told are those that remain (Machines). A cell that its limit cuts off is heard on the machine without it, which shows it
-- failed. Assumes nothing.
use Rattle.std.proofs.Common.{Bool, true, false, not, ◌&&◌, ◌||◌, true≢false, ◌≡◌, refl, sym, ap, ap₂, ◌∙◌, subst, List, ℕ, ◌<◌, ◌≤◌, mod-eq_of_lt, arith, eq-eqb, ne_eqb, ltb, ℤ, pos, length, Option, None, Some}
use Rattle.std.proofs.Math.Bool.{and-true, and_assoc}
use Rattle.std.proofs.Math.Decide.{ℕ_discrete}
use Rattle.base.specs.Rules.{EPERM}
use Rattle.base.proofs.Tests.{is_true, is_false}
use Rattle.cell_record.specs.declared.CellConfig.{CellConfig}
use Rattle.machine_state.specs.declared.CommRegion.{CommRegion}
use Rattle.machine_state.specs.declared.CallKind.{CallKind}
use Rattle.machine_state.specs.declared.CallKind.TheVariants.{Disable, Create, Start, SetLoadable, Destroy}
use Rattle.machine_state.specs.Machine.{Waiting}
use Rattle.machine_state.specs.declared.Answer.TheVariants.{Code, Wait}
use Rattle.machine_state.specs.declared.Machine.{Machine}
use Rattle.machine_state.specs.declared.Stepped.{Stepped}
use Rattle.rules.specs.State.{comm_at, limit_at, no_id, live, failed, with_cpus, with_waiting, answered}
use Rattle.rules.specs.Effects.{effect, with_state, cpus_changed, cell_cut_off}
use Rattle.rules.specs.Create.{other_cell_locked}
use Rattle.rules.specs.Asking.{may_be_messaged, next_to_message, every_cell, asks, tells, is_destroy, end_code, asking, telling, tell, wait_for, finished, carry_out, none_to_ask, ask, is_heard, consents, hear, is_last_poll, polls_after, with_polls, cuts_off, hears_at, heard_at, still_waits, poll_cell, poll}
use Rattle.rules.specs.Account.{Shown, Account, Place, Asks, Tells, Ended, moves_to, cutting, stays_with, remains, next_shown, lock_shown, last_code, tell_on, effect_comes, none_left_to_ask, ask_on, heard_by, consents_by, state_shown, limit_shown, failed_shown, unheard_at, polled_at, polled, answer_at, answer_of}
use Rattle.rules.specs.Observer.{shown_by}
use Rattle.rules.proofs.Ids.{first-same, by-test}
use Rattle.waiting.specs.Steps.{messaged_at, cut_from, account_effect, move_of}
use Rattle.waiting.proofs.Shown.{next-shown, lock-shown, state-shown, limit-shown, failed-shown, live-lt}
use Rattle.waiting.proofs.Machines.{AllWords, NoneWoken, comm-same, effect-may, cut-all-words, cut-woken}

-- the waiting call at a place of the account, with its count of polls
unfoldable pub waiting_at : CallKind → ℕ → Place → ℕ → Waiting
waiting_at kind target (Asks c) polls = Some (kind, asking target c polls)
waiting_at kind target (Tells c) polls = Some (kind, telling target c polls)
waiting_at kind target (Ended code) polls = None

abbrev pub waiting_of : Account → Waiting
waiting_of a = waiting_at a.kind a.target a.place a.polls

-- the answer and the machine after the account's last move
unfoldable pub step_for : Account → CellConfig → Machine → Stepped
step_for a new m = answered (answer_of a) (with_waiting (waiting_of a) (move_of a new m))

-- the call comes to a place
unfoldable placed : CallKind → ℕ → Place → Machine → Stepped
placed kind target place m = answered (answer_at place) (with_waiting (waiting_at kind target place 0) (messaged_at place m))

-- ---- telling

end-code : (kind : CallKind) (target : ℕ) → target < 16 → end_code kind target ≡ last_code kind target
unfolding end_code last_code
end-code Disable target h = refl
end-code Create target h = ap pos (mod-eq_of_lt (omega arith))
end-code Start target h = refl
end-code SetLoadable target h = refl
end-code Destroy target h = refl

-- of the cells of `m` those but `t` may be messaged in `n`
next-remains : (t after : ℕ) (m n : Machine) → ((id : ℕ) → may_be_messaged n id ≡ (remains t id && may_be_messaged m id))
    → next_to_message (remains t) after m ≡ next_to_message every_cell after n
unfolding next_to_message
next-remains t after m n e =
    first-same _ _ 1 15
    (λ id l. and_assoc (ltb after id) (remains t id) (may_be_messaged m id)
    ∙ ap₂ (λ (x y : Bool). x && y) (sym (and-true (ltb after id))) (sym (e id)))

abbrev told_place : CallKind → ℕ → ℕ → Place
told_place kind target next = elim (ltb next no_id) [ true ↦ Tells next | false ↦ Ended (last_code kind target) ]

tell-placed : (kind : CallKind) (target after next : ℕ) (n : Machine) → target < 16 → next ≡ next_to_message every_cell after n
    → tell kind target after n ≡ placed kind target (told_place kind target next) n
unfolding tell placed wait_for finished messaged_at answer_at waiting_at
tell-placed kind target after next n h e =
    go (ltb there no_id) refl ∙ ap (λ (k : ℕ). placed kind target (told_place kind target k) n) (sym e)
  where
    there : ℕ
    there = next_to_message every_cell after n

    go : (b : Bool) → ltb there no_id ≡ b
        → tell kind target after n ≡ placed kind target (elim b [ true ↦ Tells there | false ↦ Ended (last_code kind target) ]) n
    go true q = rw (q, tell)
    go false q = rw (q, tell) (ap (λ (z : ℤ). answered (Code z) (with_waiting None n)) (end-code kind target h))

-- ---- what has to hold for a poll to move as the account

-- the cell waited for is live, and the observer has its reply
pub record Heeds (m : Machine) (c reply : ℕ) : Type 0 where
  pub low : 1 ≤ c
  pub alive : live m c ≡ true
  pub same : reply ≡ (comm_at m c).reply_from_cell

-- while the call tells, its target may not be messaged: it is gone, or new and shut down
unfoldable pub AtPlace : Machine → ℕ → Place → ℕ → Type 0
AtPlace m target (Asks c) reply = Heeds m c reply
AtPlace m target (Tells c) reply = Heeds m c reply × (may_be_messaged m target ≡ false)
AtPlace m target (Ended code) reply = ⊥

-- ---- the effect, and asking

module _ (kind : CallKind) (target : ℕ) (new : CellConfig) (m : Machine) (h : AllWords m) (l : target < 16) where
  carry-moves : carry_out kind target new m ≡ step_for (effect_comes kind target (shown_by m)) new m
  unfolding carry_out effect_comes step_for tell_on placed finished move_of cut_from account_effect messaged_at answer_at waiting_at
  carry-moves = go (tells kind) refl
    where
      go : (b : Bool) → tells kind ≡ b → carry_out kind target new m ≡ step_for (effect_comes kind target (shown_by m)) new m
      go true e =
          rw (e, carry_out, effect_comes)
          (tell-placed kind target 0 (next_shown (remains target) 0 (shown_by m)) (effect kind target new m) l
          (next-shown m (remains target) 0 ∙ next-remains target 0 m (effect kind target new m) (λ id. effect-may kind target new m id h l e)))
      go false e = rw (e, carry_out, effect_comes)

  none_moves : none_to_ask kind target new m ≡ step_for (none_left_to_ask kind target (shown_by m)) new m
  unfolding none_to_ask none_left_to_ask step_for finished move_of cut_from account_effect messaged_at answer_at waiting_at
  none_moves =
      go (is_destroy kind && other_cell_locked target m)
      ∙ ap (λ (b : Bool). step_for (elim (is_destroy kind && b) [ true ↦ moves_to kind target false (Ended EPERM) | false ↦ effect_comes kind target (shown_by m) ]) new m)
      (sym (lock-shown m target))
    where
      go : (b : Bool)
          → ◌≡◌ {A = Stepped} (elim b [ true ↦ finished EPERM m | false ↦ carry_out kind target new m ])
          (step_for (elim b [ true ↦ moves_to kind target false (Ended EPERM) | false ↦ effect_comes kind target (shown_by m) ]) new m)
      go true = refl
      go false = carry-moves

  pub ask-moves : (after : ℕ) → ask kind target after new m ≡ step_for (ask_on kind target after (shown_by m)) new m
  unfolding ask ask_on step_for wait_for move_of cut_from account_effect messaged_at answer_at waiting_at
  ask-moves after =
      go (ltb there no_id)
      ∙ ap (λ (k : ℕ). step_for (elim (ltb k no_id) [ true ↦ moves_to kind target false (Asks k) | false ↦ none_left_to_ask kind target (shown_by m) ]) new m)
      (sym (next-shown m (asks kind target) after))
    where
      there : ℕ
      there = next_to_message (asks kind target) after m

      go : (b : Bool)
          → ◌≡◌ {A = Stepped}
          (elim b [ true ↦ wait_for kind (asking target there 0) 1 m | false ↦ none_to_ask kind target new m ])
          (step_for (elim b [ true ↦ moves_to kind target false (Asks there) | false ↦ none_left_to_ask kind target (shown_by m) ]) new m)
      go true = refl
      go false = none_moves

  -- telling on, after the effect: the target is no cell that may be messaged
  tell-moves : (after : ℕ) → may_be_messaged m target ≡ false → tell kind target after m ≡ step_for (tell_on kind target false after (shown_by m)) new m
  unfolding step_for tell_on placed move_of cut_from account_effect
  tell-moves after e =
      tell-placed kind target after (next_shown (remains target) after (shown_by m)) m l
      (next-shown m (remains target) after ∙ next-remains target after m m (λ id. same id (ℕ_discrete id target)))
    where
      same : (id : ℕ) → Dec (id ≡ target) → may_be_messaged m id ≡ (remains target id && may_be_messaged m id)
      same id (yes q) = rw (eq-eqb id target q) (ap (may_be_messaged m) q ∙ e)
      same id (no q) = rw (ne_eqb id target q)

-- ---- a move on from a cell that was cut off

module _ (kind : CallKind) (target : ℕ) (shown : List Shown) where
  abbrev Uncut : Account → Type 0
  Uncut a = a.cut ≡ None

  effect-uncut : Uncut (effect_comes kind target shown)
  unfolding effect_comes tell_on
  effect-uncut = by-test Uncut (tells kind) _ _ (λ e. refl) (λ e. refl)

  none-uncut : Uncut (none_left_to_ask kind target shown)
  unfolding none_left_to_ask
  none-uncut = by-test Uncut (is_destroy kind && lock_shown target shown) _ _ (λ e. refl) (λ e. effect-uncut)

  ask-uncut : (after : ℕ) → Uncut (ask_on kind target after shown)
  unfolding ask_on
  ask-uncut after = by-test Uncut (ltb (next_shown (asks kind target) after shown) no_id) _ _ (λ e. refl) (λ e. none-uncut)

-- it is the same move, on the machine without that cell
cut_step : (c : ℕ) (a : Account) (new : CellConfig) (m : Machine) → a.cut ≡ None
    → step_for a new (cell_cut_off c m) ≡ step_for (cutting (Some c) a) new m
unfolding step_for move_of cut_from account_effect
cut_step c a new m e = ap (λ (k : Option ℕ). answered (answer_of a) (with_waiting (waiting_of a) (elim a.moved [
  | true ↦ messaged_at a.place (account_effect a new (cut_from k (cell_cut_off c m)))
  | false ↦ account_effect a new (cut_from k (cell_cut_off c m))
]))) e

-- ---- a poll

module _ (kind : CallKind) (target : ℕ) (new : CellConfig) (m : Machine) (h : AllWords m) (l : target < 16) where
  module _ (c reply : ℕ) (w : Heeds m c reply) where
    heard-same : is_heard (comm_at m c) ≡ heard_by reply (state_shown c (shown_by m))
    unfolding is_heard heard_by
    heard-same = rw (state-shown m c w.low w.alive, w.same)

    consents-same : consents (comm_at m c) ≡ consents_by reply (state_shown c (shown_by m))
    unfolding consents consents_by
    consents-same = rw (state-shown m c w.low w.alive, w.same)

    limit-same : limit_at m c ≡ limit_shown c (shown_by m)
    limit-same = sym (limit-shown m c w.low w.alive)

    inside : c < length m.comms
    inside = subst (λ (n : ℕ). c < n) (sym h) (live-lt m c w.alive)

    -- "it is heard as final"
    cut-consents : consents (comm_at (cell_cut_off c m) c) ≡ true
    unfolding consents cell_cut_off cpus_changed with_cpus
    cut-consents = ap (λ (d : CommRegion). consents d) (comm-same m c (with_state failed (comm_at m c)) inside)

    cut-asks : ask kind target c new (cell_cut_off c m) ≡ step_for (cutting (Some c) (ask_on kind target c (failed_shown c (shown_by m)))) new m
    cut-asks =
        ask-moves kind target new (cell_cut_off c m) (cut-all-words c m h) l c
        ∙ cut_step c _ new m (ask-uncut kind target (shown_by (cell_cut_off c m)) c)
        ∙ ap (λ (shown : List Shown). step_for (cutting (Some c) (ask_on kind target c shown)) new m) (sym (failed-shown m c inside))

    cut-tells : may_be_messaged m target ≡ false
        → tell kind target c (cell_cut_off c m) ≡ step_for (cutting (Some c) (tell_on kind target false c (failed_shown c (shown_by m)))) new m
    unfolding tell_on NoneWoken
    cut-tells e =
        tell-moves kind target new (cell_cut_off c m) (cut-all-words c m h) l c
        (is_false (may_be_messaged (cell_cut_off c m) target) (λ t. true≢false (sym (cut-woken c m target (is_true _ t)).0 ∙ e)))
        ∙ cut_step c _ new m refl
        ∙ ap (λ (shown : List Shown). step_for (cutting (Some c) (tell_on kind target false c shown)) new m) (sym (failed-shown m c inside))

  -- the account at a place, as its last move left it
  abbrev place_of : Place → ℕ → Bool → Bool → Option ℕ → Account
  place_of place polls moved effect cut = record { kind = kind; target = target; place = place; polls = polls; moved = moved; effect = effect; cut = cut }

  refused : finished EPERM m ≡ step_for (moves_to kind target false (Ended EPERM)) new m
  unfolding step_for finished move_of cut_from account_effect messaged_at answer_at waiting_at
  refused = refl

  -- a poll that hears, that the limit has heard, or that hears nothing: "changes that count and nothing else"
  poll-at : (place : Place) (polls : ℕ) (moved effect : Bool) (cut : Option ℕ) (reply : ℕ) → AtPlace m target place reply
      → poll (waiting_at kind target place polls) new m ≡ step_for (polled_at place (place_of place polls moved effect cut) reply (shown_by m)) new m
  unfolding AtPlace poll poll_cell hear hears_at heard_at cuts_off still_waits with_polls polled_at unheard_at waiting_at answer_at step_for move_of cut_from account_effect
  poll-at (Asks c) polls moved effect cut reply w =
      go (is_heard (comm_at m c)) (is_last_poll (limit_at m c) polls)
      ∙ ap₂ (λ (b d : Bool). step_for (heard_as b d (is_last_poll (limit_at m c) polls) (limit_at m c)) new m) (heard-same c reply w) (consents-same c reply w)
      ∙ ap
      (λ (limit : ℕ). step_for (heard_as (heard_by reply state) (consents_by reply state) (is_last_poll limit polls) limit) new m) (limit-same c reply w)
    where
      state : ℕ
      state = state_shown c (shown_by m)

      heard_as : Bool → Bool → Bool → ℕ → Account
      heard_as b d last limit =
          elim b [
            | true ↦ elim d [ true ↦ ask_on kind target c (shown_by m) | false ↦ moves_to kind target false (Ended EPERM) ]
            | false ↦ elim last [
              | true ↦ cutting (Some c) (ask_on kind target c (failed_shown c (shown_by m)))
              | false ↦ stays_with (polls_after limit polls) (place_of (Asks c) polls moved effect cut)
            ]
          ]

      consented : (d : Bool) → ◌≡◌ {A = Stepped} (elim d [ true ↦ ask kind target c new m | false ↦ finished EPERM m ]) (step_for (heard_as true d false 0) new m)
      consented true = ask-moves kind target new m h l c
      consented false = refused

      go : (b last : Bool)
          → ◌≡◌ {A = Stepped}
          (elim (b || (not b && last)) [
            | true ↦ hear kind (asking target c polls) new (elim (not b && last) [ true ↦ cell_cut_off c m | false ↦ m ])
            | false ↦ answered (Wait c) (still_waits kind (asking target c polls) m)
          ])
          (step_for (heard_as b (consents (comm_at m c)) last (limit_at m c)) new m)
      go true last = consented (consents (comm_at m c))
      go false true =
          ap (λ (d : Bool). elim d [ true ↦ ask kind target c new (cell_cut_off c m) | false ↦ finished EPERM (cell_cut_off c m) ]) (cut-consents c reply w)
          ∙ cut-asks c reply w
      go false false = refl
  poll-at (Tells c) polls moved effect cut reply w =
      go (is_heard (comm_at m c)) (is_last_poll (limit_at m c) polls)
      ∙ ap (λ (b : Bool). step_for (heard_as b (is_last_poll (limit_at m c) polls) (limit_at m c)) new m) (heard-same c reply w.0)
      ∙ ap (λ (limit : ℕ). step_for (heard_as (heard_by reply (state_shown c (shown_by m))) (is_last_poll limit polls) limit) new m) (limit-same c reply w.0)
    where
      heard_as : Bool → Bool → ℕ → Account
      heard_as b last limit =
          elim b [
            | true ↦ tell_on kind target false c (shown_by m)
            | false ↦ elim last [
              | true ↦ cutting (Some c) (tell_on kind target false c (failed_shown c (shown_by m)))
              | false ↦ stays_with (polls_after limit polls) (place_of (Tells c) polls moved effect cut)
            ]
          ]

      go : (b last : Bool)
          → ◌≡◌ {A = Stepped}
          (elim (b || (not b && last)) [
            | true ↦ hear kind (telling target c polls) new (elim (not b && last) [ true ↦ cell_cut_off c m | false ↦ m ])
            | false ↦ answered (Wait c) (still_waits kind (telling target c polls) m)
          ])
          (step_for (heard_as b last (limit_at m c)) new m)
      go true last = tell-moves kind target new m h l c w.1
      go false true = cut-tells c reply w.0 w.1
      go false false = refl
  poll-at (Ended code) polls moved effect cut reply w = absurd w

-- a poll of a waiting call, as the account's
pub poll-moves : (a : Account) (reply : ℕ) (new : CellConfig) (m : Machine) → AllWords m → a.target < 16 → AtPlace m a.target a.place reply
    → m.waiting ≡ waiting_of a → poll m.waiting new m ≡ step_for (polled a reply (shown_by m)) new m
unfolding polled
poll-moves a reply new m h l w e =
    ap (λ (x : Waiting). poll x new m) e
    ∙ poll-at a.kind a.target new m h l a.place a.polls a.moved a.effect a.cut reply w
