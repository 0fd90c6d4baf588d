-- What the observer shows of a machine's live cells tells the account what the rules read from the machine: the next cell to message, a lock, a
-- free ID, a live cell's state. Each follows by going through the IDs in their order. Assumes nothing.
use Rattle.std.proofs.Common.{Bool, true, false, not, ◌&&◌, ◌||◌, true≢false, ◌≡◌, refl, sym, ap, ap₂, ◌∙◌, List, [], ◌∷◌, ℕ, zero, suc, ◌+◌, ◌<◌, ◌≤◌, arith, eq-eqb, ne_eqb, eqb-true, ltb-true, ltb, eqb, length, get_or, set, get_or-set_same, get_or-set_other}
use Rattle.std.proofs.lemmas.Bool.{false≢true}
use Rattle.std.proofs.Math.Bool.{and-false, and_assoc}
use Rattle.std.proofs.Math.Decide.{ℕ_discrete}
use Rattle.std.proofs.Math.Dec.{eqb-suc-zero}
use Rattle.base.specs.Lists.{any, from}
use Rattle.cpu_set.specs.CpuSet.{bit}
use Rattle.machine_state.specs.declared.CommRegion.{CommRegion}
use Rattle.machine_state.specs.declared.Machine.{Machine}
use Rattle.machine_state.specs.Machine.{past_comm}
use Rattle.rules.specs.State.{comm_at, state_at, limit_at, cell_ids, first, has_id, live, active, is_final, is_locked, failed, with_comm, with_cpus}
use Rattle.rules.specs.Effects.{with_state, cpus_changed, cell_cut_off}
use Rattle.rules.specs.Create.{other_cell_locked, free_id}
use Rattle.rules.specs.Asking.{may_be_messaged, next_to_message}
use Rattle.rules.specs.Account.{Shown, messageable, next_shown, unused_id, lock_shown, cell_shown, state_shown, limit_shown, failed_shown}
use Rattle.rules.specs.Observer.{shown_from, shown_by}

abbrev shown_at : Machine → ℕ → Shown
shown_at m id = record { id = id; passive = (comm_at m id).passive; limit = limit_at m id; state = state_at m id }

-- a non-root cell is active where it is live and in no final state
active-shown : (m : Machine) (k : ℕ) → active m (suc k) ≡ (live m (suc k) && not (is_final (state_at m (suc k))))
unfolding active
active-shown m k = ap (λ (b : Bool). not b && live m (suc k) && not (is_final (state_at m (suc k)))) (eqb-suc-zero k)

may-shown : (m : Machine) (k : ℕ) → may_be_messaged m (suc k) ≡ (live m (suc k) && messageable (shown_at m (suc k)))
unfolding may_be_messaged
may-shown m k =
    ap (λ (b : Bool). b && not (comm_at m (suc k)).passive) (active-shown m k)
    ∙ and_assoc (live m (suc k)) (not (is_final (state_at m (suc k)))) (not (comm_at m (suc k)).passive)

-- ---- the next cell to message

next-from : (m : Machine) (among : ℕ → Bool) (after k n : ℕ)
    → next_shown among after (shown_from m (from (suc k) n)) ≡ first (λ id. ltb after id && among id && may_be_messaged m id) (from (suc k) n)
unfolding next_shown shown_from first from
next-from m among after k zero = refl
next-from m among after k (suc n) =
    go (live m (suc k)) (next-from m among after (suc k) n)
    ∙ ap (λ (b : Bool). elim (test && b) [ true ↦ suc k | false ↦ first may ids ]) (sym (may-shown m k))
  where
    ids : List ℕ
    ids = from (suc (suc k)) n

    test : Bool
    test = ltb after (suc k) && among (suc k)

    may : ℕ → Bool
    may id = ltb after id && among id && may_be_messaged m id

    go : (b : Bool) → next_shown among after (shown_from m ids) ≡ first may ids
        → next_shown among after (elim b [ true ↦ shown_at m (suc k) ∷ shown_from m ids | false ↦ shown_from m ids ])
        ≡ elim (test && (b && messageable (shown_at m (suc k)))) [ true ↦ suc k | false ↦ first may ids ]
    go true e = ap (λ (r : ℕ). elim (test && messageable (shown_at m (suc k))) [ true ↦ suc k | false ↦ r ]) e
    go false e = e ∙ ap (λ (b : Bool). elim b [ true ↦ suc k | false ↦ first may ids ]) (sym (and-false test))

pub next-shown : (m : Machine) (among : ℕ → Bool) (after : ℕ) → next_shown among after (shown_by m) ≡ next_to_message among after m
unfolding next_to_message
next-shown m among after = next-from m among after 0 15

-- ---- locks

final-unlocked : (s : ℕ) → is_locked s ≡ (not (is_final s) && is_locked s)
final-unlocked s = go (eqb s 1) refl
  where
    go : (b : Bool) → eqb s 1 ≡ b → b ≡ (not (is_final s) && b)
    go true e = rw (eqb-true s 1 e)
    go false e = sym (and-false (not (is_final s)))

lock-from : (m : Machine) (target k n : ℕ)
    → any (λ (s : Shown). not (eqb s.id target) && is_locked s.state) (shown_from m (from (suc k) n))
    ≡ any (λ id. active m id && not (eqb id target) && is_locked (state_at m id)) (from (suc k) n)
unfolding shown_from from
lock-from m target k zero = refl
lock-from m target k (suc n) =
    go (live m (suc k)) (lock-from m target (suc k) n)
    ∙ ap (λ (b : Bool). (b && not (eqb (suc k) target) && is_locked state) || any locks ids) (sym (active-shown m k))
  where
    ids : List ℕ
    ids = from (suc (suc k)) n

    state : ℕ
    state = state_at m (suc k)

    locks : ℕ → Bool
    locks id = active m id && not (eqb id target) && is_locked (state_at m id)

    shown_locks : Shown → Bool
    shown_locks s = not (eqb s.id target) && is_locked s.state

    reorder : (f t l : Bool) → l ≡ (f && l) → (t && l) ≡ (f && t && l)
    reorder true t l e = refl
    reorder false true l e = e
    reorder false false l e = refl

    go : (b : Bool) → any shown_locks (shown_from m ids) ≡ any locks ids
        → any shown_locks (elim b [ true ↦ shown_at m (suc k) ∷ shown_from m ids | false ↦ shown_from m ids ])
        ≡ ((b && not (is_final state) && not (eqb (suc k) target) && is_locked state) || any locks ids)
    go true e = ap₂ (λ (x y : Bool). x || y) (reorder (not (is_final state)) (not (eqb (suc k) target)) (is_locked state) (final-unlocked state)) e
    go false e = e

pub lock-shown : (m : Machine) (target : ℕ) → lock_shown target (shown_by m) ≡ other_cell_locked target m
unfolding lock_shown other_cell_locked
lock-shown m target = lock-from m target 0 15

-- ---- one cell

-- in a list of IDs from k on that reaches past `id`, a live `id` is shown as it is
cell-from : (m : Machine) (id k n : ℕ) → k ≤ id → id < k + n → live m id ≡ true → cell_shown id (shown_from m (from k n)) ≡ shown_at m id
unfolding cell_shown shown_from from
cell-from m id k zero l h v = absurd (omega arith)
cell-from m id k (suc n) l h v = go (live m k) refl (ℕ_discrete k id) (λ l'. cell-from m id (suc k) n l' (omega arith) v)
  where
    rest : List Shown
    rest = shown_from m (from (suc k) n)

    go : (b : Bool) → live m k ≡ b → Dec (k ≡ id) → (suc k ≤ id → cell_shown id rest ≡ shown_at m id)
        → cell_shown id (elim b [ true ↦ shown_at m k ∷ rest | false ↦ rest ]) ≡ shown_at m id
    go true e (yes q) f = rw (eq-eqb k id q, cell_shown) (ap (shown_at m) q)
    go true e (no q) f = rw (ne_eqb k id q, cell_shown) (f (omega arith))
    go false e (yes q) f = absurd (false≢true (sym e ∙ ap (live m) q ∙ v))
    go false e (no q) f = f (omega arith)

-- a live cell's ID is below 16
pub live-lt : (m : Machine) (id : ℕ) → live m id ≡ true → id < 16
unfolding has_id
live-lt m id = go (ltb id 16) refl
  where
    go : (b : Bool) → ltb id 16 ≡ b → elim b [ true ↦ bit id m.live_ids | false ↦ false ] ≡ true → id < 16
    go true e v = ltb-true id 16 e
    go false e v = absurd (false≢true v)

cell-shown : (m : Machine) (id : ℕ) → 1 ≤ id → live m id ≡ true → cell_shown id (shown_by m) ≡ shown_at m id
cell-shown m id l v = cell-from m id 1 15 l (omega (arith, live-lt m id v)) v

pub state-shown : (m : Machine) (id : ℕ) → 1 ≤ id → live m id ≡ true → state_shown id (shown_by m) ≡ state_at m id
state-shown m id l v = ap (λ (s : Shown). s.state) (cell-shown m id l v)

pub limit-shown : (m : Machine) (id : ℕ) → 1 ≤ id → live m id ≡ true → limit_shown id (shown_by m) ≡ limit_at m id
limit-shown m id l v = ap (λ (s : Shown). s.limit) (cell-shown m id l v)

-- ---- a cell cut off is shown failed

failed-at : (m : Machine) (c id : ℕ) → c < length m.comms
    → ◌≡◌ {A = Shown}
    (record { id = id; passive = (comm_at m id).passive; limit = limit_at m id; state = elim (eqb id c) [ true ↦ failed | false ↦ state_at m id ] })
    (shown_at (cell_cut_off c m) id)
unfolding cell_cut_off cpus_changed with_cpus with_comm
failed-at m c id h = go (ℕ_discrete id c)
  where
    words : CommRegion
    words = with_state failed (comm_at m c)

    shown : CommRegion → Shown
    shown w = record { id = id; passive = w.passive; limit = w.reply_limit; state = w.cell_state }

    go : Dec (id ≡ c)
        → ◌≡◌ {A = Shown}
        (record { id = id; passive = (comm_at m id).passive; limit = limit_at m id; state = elim (eqb id c) [ true ↦ failed | false ↦ state_at m id ] })
        (shown (get_or (set m.comms c words) id past_comm))
    go (yes q) =
        rw (eq-eqb id c q) (ap (λ (n : ℕ). shown (with_state failed (comm_at m n))) q ∙ ap shown (sym (ap (λ (n : ℕ). get_or (set m.comms c words) n past_comm) q ∙ get_or-set_same m.comms c words past_comm h)))
    go (no q) = rw (ne_eqb id c q) (ap shown (sym (get_or-set_other m.comms c id words past_comm q)))

failed-from : (m : Machine) (c : ℕ) (ids : List ℕ) → c < length m.comms → failed_shown c (shown_from m ids) ≡ shown_from (cell_cut_off c m) ids
unfolding failed_shown shown_from cell_cut_off cpus_changed with_cpus with_comm
failed-from m c [] h = refl
failed-from m c (id ∷ ids) h = go (live m id) (failed-from m c ids h)
  where
    go : (b : Bool) → failed_shown c (shown_from m ids) ≡ shown_from (cell_cut_off c m) ids
        → failed_shown c (elim b [ true ↦ shown_at m id ∷ shown_from m ids | false ↦ shown_from m ids ])
        ≡ elim b [ true ↦ shown_at (cell_cut_off c m) id ∷ shown_from (cell_cut_off c m) ids | false ↦ shown_from (cell_cut_off c m) ids ]
    go true e = ap₂ (λ (s : Shown) (ss : List Shown). s ∷ ss) (failed-at m c id h) e
    go false e = e

pub failed-shown : (m : Machine) (c : ℕ) → c < length m.comms → failed_shown c (shown_by m) ≡ shown_by (cell_cut_off c m)
failed-shown m c h = failed-from m c cell_ids h

-- ---- a free ID

abbrev shown_is : ℕ → Shown → Bool
shown_is id s = eqb s.id id

-- an ID of the list is among those shown where it is live
unused-from : (m : Machine) (id k n : ℕ) → live m id ≡ false → any (shown_is id) (shown_from m (from k n)) ≡ false
unfolding shown_from from
unused-from m id k zero v = refl
unused-from m id k (suc n) v = go (live m k) refl (ℕ_discrete k id) (unused-from m id (suc k) n v)
  where
    go : (b : Bool) → live m k ≡ b → Dec (k ≡ id) → any (shown_is id) (shown_from m (from (suc k) n)) ≡ false
        → any (shown_is id) (elim b [ true ↦ shown_at m k ∷ shown_from m (from (suc k) n) | false ↦ shown_from m (from (suc k) n) ]) ≡ false
    go true e (yes q) f = absurd (true≢false (sym e ∙ ap (live m) q ∙ v))
    go true e (no q) f = rw (ne_eqb k id q) f
    go false e d f = f

used-from : (m : Machine) (id k n : ℕ) → k ≤ id → id < k + n → live m id ≡ true → any (shown_is id) (shown_from m (from k n)) ≡ true
unfolding shown_from from
used-from m id k zero l h v = absurd (omega arith)
used-from m id k (suc n) l h v = go (live m k) refl (ℕ_discrete k id) (λ l'. used-from m id (suc k) n l' (omega arith) v)
  where
    go : (b : Bool) → live m k ≡ b → Dec (k ≡ id) → (suc k ≤ id → any (shown_is id) (shown_from m (from (suc k) n)) ≡ true)
        → any (shown_is id) (elim b [ true ↦ shown_at m k ∷ shown_from m (from (suc k) n) | false ↦ shown_from m (from (suc k) n) ]) ≡ true
    go true e (yes q) f = rw (eq-eqb k id q)
    go true e (no q) f = rw (ne_eqb k id q) (f (omega arith))
    go false e (yes q) f = absurd (false≢true (sym e ∙ ap (live m) q ∙ v))
    go false e (no q) f = f (omega arith)

used-shown : (m : Machine) (id : ℕ) → 1 ≤ id → any (shown_is id) (shown_by m) ≡ live m id
used-shown m id l = go (live m id) refl
  where
    go : (b : Bool) → live m id ≡ b → any (shown_is id) (shown_by m) ≡ b
    go true v = used-from m id 1 15 l (omega (arith, live-lt m id v)) v
    go false v = unused-from m id 1 15 v

free-from : (m : Machine) (k n : ℕ) → unused_id (from (suc k) n) (shown_by m) ≡ first (λ id. not (live m id)) (from (suc k) n)
unfolding unused_id first from
free-from m k zero = refl
free-from m k (suc n) =
    ap₂ (λ (b : Bool) (r : ℕ). elim b [ true ↦ r | false ↦ suc k ]) (used-shown m (suc k) (omega arith)) (free-from m (suc k) n)
    ∙ go (live m (suc k))
  where
    rest : ℕ
    rest = first (λ id. not (live m id)) (from (suc (suc k)) n)

    go : (b : Bool) → ◌≡◌ {A = ℕ} (elim b [ true ↦ rest | false ↦ suc k ]) (elim (not b) [ true ↦ suc k | false ↦ rest ])
    go true = refl
    go false = refl

pub free-shown : (m : Machine) → unused_id cell_ids (shown_by m) ≡ free_id m
unfolding free_id
free-shown m = free-from m 0 15
