-- What a part of the machine is after another has changed: a cell's words after a message, and which cells may be messaged after Create's and
-- Destroy's effects, which no effect makes more, and after a cell was cut off; those that may keep their limits. Assumes nothing.
use Rattle.std.proofs.Common.{Bool, true, false, not, ◌&&◌, ◌||◌, true≢false, ◌≡◌, refl, sym, ap, ap₂, ◌∙◌, subst, ◌⊎◌, inl, inr, List, ℕ, ◌<◌, ◌≤◌, eq-eqb, ne_eqb, eqb, length, get_or, set, length-set, get_or-set_same, get_or-set_other}
use Rattle.std.proofs.lemmas.Bool.{and_parts, false≢true, not-true}
use Rattle.std.proofs.Math.Bool.{and-false}
use Rattle.std.proofs.Math.Decide.{ℕ_discrete}
use Rattle.std.proofs.Math.Seq.{set_out}
use Rattle.base.proofs.Tests.{le-or-lt}
use Rattle.base.proofs.Lists.{length-up_to}
use Rattle.cell_record.specs.declared.CellConfig.{CellConfig}
use Rattle.machine_state.specs.declared.CommRegion.{CommRegion}
use Rattle.machine_state.specs.declared.CallKind.{CallKind}
use Rattle.machine_state.specs.declared.CallKind.TheVariants.{Disable, Create, Start, SetLoadable, Destroy}
use Rattle.machine_state.specs.declared.Machine.{Machine}
use Rattle.machine_state.specs.Machine.{past_comm, no_comm}
use Rattle.rules.specs.State.{comm_at, state_at, limit_at, failed, has_id, live, active, is_final, with_comm, with_pool, with_ids, with_root_cpus, with_cpus, with_cell}
use Rattle.rules.specs.Effects.{with_state, cell_created, cell_destroyed, cell_cut_off, change_cpus, cpus_changed, new_comm, effect, drop_id}
use Rattle.rules.specs.Asking.{may_be_messaged, tells}
use Rattle.rules.specs.Account.{remains}
use Rattle.rules.proofs.Ids.{has-added, has-dropped}

-- every cell has its words
abbrev pub AllWords : Machine → Type 0
AllWords m = length m.comms ≡ 16

-- and there are all CPUs
abbrev pub AllCpus : Machine → Type 0
AllCpus m = length m.cpus ≡ 64

-- ---- two tests at once

-- ---- a cell's words

pub comm-same : (m : Machine) (id : ℕ) (c : CommRegion) → id < length m.comms → comm_at (with_comm id c m) id ≡ c
unfolding with_comm
comm-same m id c h = get_or-set_same m.comms id c past_comm h

pub comm-other : (m : Machine) (k id : ℕ) (c : CommRegion) → (id ≡ k → ⊥) → comm_at (with_comm k c m) id ≡ comm_at m id
unfolding with_comm
comm-other m k id c n = get_or-set_other m.comms k id c past_comm n

pub all-words-with : (m : Machine) (id : ℕ) (c : CommRegion) → AllWords m → AllWords (with_comm id c m)
unfolding with_comm
all-words-with m id c h = length-set m.comms id c ∙ h

-- ---- who may be messaged: a cell by whether it is live and by its words

unfoldable may_by : ℕ → Bool → CommRegion → Bool
may_by id alive c = not (eqb id 0) && alive && not (is_final c.cell_state) && not c.passive

may-by : (m : Machine) (id : ℕ) → may_be_messaged m id ≡ may_by id (live m id) (comm_at m id)
unfolding may_be_messaged active may_by
may-by m id = refl

final-may-not : (id : ℕ) (alive : Bool) (c : CommRegion) → is_final c.cell_state ≡ true → may_by id alive c ≡ false
unfolding may_by
final-may-not id alive c e = rw (e, and-false (not (eqb id 0) && alive))

dead-may-not : (id : ℕ) (c : CommRegion) → may_by id false c ≡ false
unfolding may_by
dead-may-not id c = rw (and-false (not (eqb id 0)))

-- a change of the cell `t` alone, which may not be messaged after it
changed-may : (t : ℕ) (m n : Machine) (id : ℕ) → (id ≡ t → may_be_messaged n id ≡ false)
    → ((id ≡ t → ⊥) → (live n id ≡ live m id) × (comm_at n id ≡ comm_at m id)) → may_be_messaged n id ≡ (remains t id && may_be_messaged m id)
changed-may t m n id f g = go (ℕ_discrete id t)
  where
    go : Dec (id ≡ t) → may_be_messaged n id ≡ (remains t id && may_be_messaged m id)
    go (yes q) = rw (eq-eqb id t q) (f q)
    go (no q) =
        rw (ne_eqb id t q) (may-by n id ∙ ap₂ (λ (b : Bool) (c : CommRegion). may_by id b c) (g q).0 (g q).1 ∙ sym (may-by m id))

-- ---- no cell wakes: those that may be messaged after a change might be before it, and have the same limit

unfoldable pub NoneWoken : Machine → Machine → Type 0
NoneWoken m n = (id : ℕ) → may_be_messaged n id ≡ true → (may_be_messaged m id ≡ true) × (limit_at n id ≡ limit_at m id)

pub woken-same : (m : Machine) → NoneWoken m m
unfolding NoneWoken
woken-same m id t = (t, refl)

pub woken-trans : (m n o : Machine) → NoneWoken m n → NoneWoken n o → NoneWoken m o
unfolding NoneWoken
woken-trans m n o f g id t = let back = g id t in ((f id back.0).0, back.1 ∙ (f id back.0).1)

may-back : (id : ℕ) (alive : Bool) (c d : CommRegion) → d.passive ≡ c.passive → (is_final d.cell_state ≡ false → is_final c.cell_state ≡ false)
    → may_by id alive d ≡ true → may_by id alive c ≡ true
unfolding may_by
may-back id alive c d p f t =
    rw (f (not-true _ ((and_parts (not (eqb id 0) && alive) _ up).1)), ← p, (and_parts (not (eqb id 0) && alive) _ up).0) ((and_parts there (not d.passive) t).1)
  where
    there : Bool
    there = not (eqb id 0) && alive && not (is_final d.cell_state)

    up : there ≡ true
    up = (and_parts there (not d.passive) t).0

-- what holds of a cell's words before and of those put there holds after
pub by-words : (P : CommRegion → Type 0) (m : Machine) (k id : ℕ) (c : CommRegion) → (id ≡ k → P c) → P (comm_at m id) → P (comm_at (with_comm k c m) id)
unfolding with_comm
by-words P m k id c p q = go (ℕ_discrete id k) (le-or-lt (length m.comms) k)
  where
    go : Dec (id ≡ k) → (length m.comms ≤ k) ⊎ (k < length m.comms) → P (get_or (set m.comms k c) id past_comm)
    go (no n) d = subst P (sym (get_or-set_other m.comms k id c past_comm n)) q
    go (yes e) (inl h) = subst (λ (l : List CommRegion). P (get_or l id past_comm)) (sym (set_out m.comms k c h)) q
    go (yes e) (inr h) =
        subst (λ (n : ℕ). P (get_or (set m.comms k c) n past_comm)) (sym e) (subst P (sym (get_or-set_same m.comms k c past_comm h)) (p e))

pub words-woken : (m : Machine) (k : ℕ) (c : CommRegion) → c.passive ≡ (comm_at m k).passive → c.reply_limit ≡ limit_at m k
    → (is_final c.cell_state ≡ false → is_final (state_at m k) ≡ false) → NoneWoken m (with_comm k c m)
unfolding NoneWoken with_comm
words-woken m k c p l f id t =
    by-words Back m k id c
    (λ e g. (
      may-by m id
          ∙ may-back id (live m id) (comm_at m id) c (p ∙ ap (λ (n : ℕ). (comm_at m n).passive) (sym e)) (λ x. ap (λ (n : ℕ). is_final (state_at m n)) e ∙ f x) g,
      l ∙ ap (limit_at m) (sym e),
    ))
    (λ g. (may-by m id ∙ g, refl)) (sym (may-by (with_comm k c m) id) ∙ t)
  where
    Back : CommRegion → Type 0
    Back d = may_by id (live m id) d ≡ true → (may_be_messaged m id ≡ true) × (d.reply_limit ≡ limit_at m id)

-- ---- a cell cut off

pub cut-all-words : (c : ℕ) (m : Machine) → AllWords m → AllWords (cell_cut_off c m)
unfolding cell_cut_off cpus_changed with_cpus
cut-all-words c m h = all-words-with m c _ h

pub cut-woken : (c : ℕ) (m : Machine) → NoneWoken m (cell_cut_off c m)
unfolding cell_cut_off cpus_changed with_cpus NoneWoken may_be_messaged active
cut-woken c m = words-woken m c (with_state failed (comm_at m c)) refl refl (λ e. absurd (true≢false e))

created-may : (t : ℕ) (new : CellConfig) (m : Machine) (id : ℕ) → AllWords m → t < 16
    → may_be_messaged (cell_created t new m) id ≡ (remains t id && may_be_messaged m id)
unfolding cell_created cpus_changed with_pool with_ids with_root_cpus with_cpus with_cell with_comm new_comm
created-may t new m id h l =
    changed-may t m (cell_created t new m) id
    (λ q. may-by (cell_created t new m) id ∙ final-may-not id (live (cell_created t new m) id) _ (final q))
    (λ q. (has-added t m.live_ids id l ∙ ap (λ (b : Bool). b || has_id m.live_ids id) (ne_eqb id t q), get_or-set_other m.comms t id (new_comm new) past_comm q))
  where
    final : id ≡ t → is_final (get_or (set m.comms t (new_comm new)) id past_comm).cell_state ≡ true
    final q = rw (q, get_or-set_same m.comms t (new_comm new) past_comm (subst (λ (n : ℕ). t < n) (sym h) l))

destroyed-may : (t : ℕ) (m : Machine) (id : ℕ) → may_be_messaged (cell_destroyed t m) id ≡ (remains t id && may_be_messaged m id)
unfolding cell_destroyed cpus_changed with_pool with_ids with_root_cpus with_cpus with_cell with_comm
destroyed-may t m id =
    changed-may t m (cell_destroyed t m) id
    (λ q. may-by (cell_destroyed t m) id ∙ ap (λ (b : Bool). may_by id b (comm_at (cell_destroyed t m) id)) (gone q) ∙ dead-may-not id _)
    (λ q. (has-dropped t m.live_ids id ∙ ap (λ (b : Bool). not b && has_id m.live_ids id) (ne_eqb id t q), get_or-set_other m.comms t id no_comm past_comm q))
  where
    gone : id ≡ t → has_id (drop_id t m.live_ids) id ≡ false
    gone q = has-dropped t m.live_ids id ∙ ap (λ (b : Bool). not b && has_id m.live_ids id) (eq-eqb id t q)

-- after the effect of a call that tells, the cells that may be messaged are those that remain of those that might be before
pub effect-may : (kind : CallKind) (t : ℕ) (new : CellConfig) (m : Machine) (id : ℕ) → AllWords m → t < 16 → tells kind ≡ true
    → may_be_messaged (effect kind t new m) id ≡ (remains t id && may_be_messaged m id)
unfolding effect
effect-may Disable t new m id h l e = absurd (false≢true e)
effect-may Create t new m id h l e = created-may t new m id h l
effect-may Start t new m id h l e = absurd (false≢true e)
effect-may SetLoadable t new m id h l e = absurd (false≢true e)
effect-may Destroy t new m id h l e = destroyed-may t m id

pub effect-all-words : (kind : CallKind) (t : ℕ) (new : CellConfig) (m : Machine) → AllWords m → tells kind ≡ true → AllWords (effect kind t new m)
unfolding effect cell_created cell_destroyed cpus_changed with_pool with_ids with_root_cpus with_cpus with_cell with_comm
effect-all-words Disable t new m h e = absurd (false≢true e)
effect-all-words Create t new m h e = length-set m.comms t (new_comm new) ∙ h
effect-all-words Start t new m h e = absurd (false≢true e)
effect-all-words SetLoadable t new m h e = absurd (false≢true e)
effect-all-words Destroy t new m h e = length-set m.comms t no_comm ∙ h

-- no cell but its target has other words
pub effect-other : (kind : CallKind) (t : ℕ) (new : CellConfig) (m : Machine) (id : ℕ) → tells kind ≡ true → (id ≡ t → ⊥)
    → comm_at (effect kind t new m) id ≡ comm_at m id
unfolding effect cell_created cell_destroyed cpus_changed with_pool with_ids with_root_cpus with_cpus with_cell with_comm
effect-other Disable t new m id e q = absurd (false≢true e)
effect-other Create t new m id e q = get_or-set_other m.comms t id (new_comm new) past_comm q
effect-other Start t new m id e q = absurd (false≢true e)
effect-other SetLoadable t new m id e q = absurd (false≢true e)
effect-other Destroy t new m id e q = get_or-set_other m.comms t id no_comm past_comm q

pub effect-all-cpus : (kind : CallKind) (t : ℕ) (new : CellConfig) (m : Machine) → tells kind ≡ true → AllCpus (effect kind t new m)
unfolding effect cell_created cell_destroyed cpus_changed change_cpus with_pool with_ids with_root_cpus with_cpus with_cell with_comm
effect-all-cpus Disable t new m e = absurd (false≢true e)
effect-all-cpus Create t new m e = length-up_to _ 64
effect-all-cpus Start t new m e = absurd (false≢true e)
effect-all-cpus SetLoadable t new m e = absurd (false≢true e)
effect-all-cpus Destroy t new m e = length-up_to _ 64
