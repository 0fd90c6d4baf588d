-- What is left of a decision after each of its parts: less, and it makes the same machine. Assumes nothing.
use Rattle.std.proofs.Common.{◌≡◌, ℕ, ◌+◌, ◌*◌, ◌<◌, ◌≤◌, false, length, sym, refl, ap, ◌∙◌, subst, arith, Option, None, Some, le-ltb, lt-ltb}
use Rattle.base.proofs.Lists.{length-up_to}
use Rattle.cpu_set.specs.CpuSet.{member, count}
use Rattle.cpu_set.proofs.Laws.{count-le}
use Rattle.cell_record.specs.declared.CellConfig.{CellConfig}
use Rattle.machine_state.specs.declared.CommRegion.{CommRegion}
use Rattle.machine_state.specs.declared.CallKind.{CallKind}
use Rattle.machine_state.specs.declared.Machine.{Machine}
use Rattle.machine_state.specs.Machine.{max_cells, max_cpus}
use Rattle.rules.specs.State.{cell_at, with_cpus}
use Rattle.rules.specs.Effects.{change_cpus, cpus_changed, effect}
use Rattle.cpu_table.specs.declared.CpuChange.{CpuChange}
use Rattle.asking.specs.Moves.{Effect, effect_of, cut_off_at}
use Rattle.effects.specs.declared.Numbers.{Numbers}
use Rattle.effects.specs.declared.Part.{Part}
use Rattle.effects.specs.Parts.{is_disable, figures_of, parts_stored, cpus_after}
use Rattle.effects.specs.Applying.{remaining, rest_of, effect_parts, parts_left, Uncut, OneCell, IsNext}
use Rattle.effects.proofs.Laws.{numbers_there, cell_there, words_there, stored-is-effect}
use Rattle.effects.proofs.Applying.{only-rest, cell-applied}

-- what comes next, as a test or an arm knows it
pub as-next : (cpus : ℕ) (cut : Option ℕ) (e : Effect) (ids : ℕ) (next known : Option Part) → next ≡ known → IsNext cpus cut e ids next → IsNext cpus cut e ids known
as-next cpus cut e ids next known is = subst (IsNext cpus cut e ids) is

pub as-part : (cpus : ℕ) (cut : Option ℕ) (e : Effect) (ids : ℕ) (part known : Part) → part ≡ known → IsNext cpus cut e ids (Some part)
    → IsNext cpus cut e ids (Some known)
as-part cpus cut e ids part known is = subst (λ (x : Part). IsNext cpus cut e ids (Some x)) is

-- the numbers that a part names have places in their tables
pub cpu_inside : (cpus : ℕ) (cut : Option ℕ) (e : Effect) (ids : ℕ) (part : Part) (k : ℕ) → IsNext cpus cut e ids (Some part) → part ≡ Part.Cpu k → k < 64
unfolding IsNext
cpu_inside cpus cut e ids part k h is = let n = as-part cpus cut e ids part (Part.Cpu k) is h in n.0

pub cell_inside : (cpus : ℕ) (cut : Option ℕ) (e : Effect) (ids : ℕ) (part : Part) (id : ℕ) → IsNext cpus cut e ids (Some part) → part ≡ Part.CutOff id → id < 16
unfolding IsNext
cell_inside cpus cut e ids part id h is = let n = as-part cpus cut e ids part (Part.CutOff id) is h in n.2

-- ---- less is left

few-cpus : (cpus : ℕ) → count cpus ≤ 64
unfolding count
few-cpus cpus = count-le 64 (λ k. member k cpus)

parts_cut : (cut : ℕ) (e : Effect) (ids : ℕ) → cut < max_cells → parts_left (Some cut) e ids ≡ 1 + effect_parts e ids
unfolding parts_left
parts_cut cut e ids h = rw (lt-ltb cut max_cells h, parts_left)

parts-uncut : (cut : Option ℕ) (e : Effect) (ids : ℕ) → Uncut cut → parts_left cut e ids ≡ effect_parts e ids
unfolding parts_left Uncut
parts-uncut None e ids h = refl
parts-uncut (Some cut) e ids h = rw (le-ltb cut max_cells h, parts_left)

-- one CPU less
pub less-cpu : (parts cpus' cpus : ℕ) → cpus' < cpus → parts * 65 + cpus' < parts * 65 + cpus
less-cpu parts cpus' cpus h = omega arith

-- one part less, whatever CPUs it leaves to be changed
less-part : (parts' parts cpus' cpus : ℕ) → parts' < parts → parts' * 65 + count cpus' < parts * 65 + count cpus
less-part parts' parts cpus' cpus h = omega (arith, few-cpus cpus')

-- no cell is left to be cut off
pub less-cut : (cut : Option ℕ) (cell : ℕ) (e : Effect) (ids cpus' cpus : ℕ) → cut ≡ Some cell → cell < max_cells
    → parts_left None e ids * 65 + count cpus' < parts_left cut e ids * 65 + count cpus
unfolding Uncut
less-cut cut cell e ids cpus' cpus is inside =
    let before = ap (λ (x : Option ℕ). parts_left x e ids) is ∙ parts_cut cell e ids inside in
    let after = parts-uncut None e ids tt in
    less-part _ _ cpus' cpus (omega arith)

-- less of an effect
pub less-effect : (cut : Option ℕ) (e e' : Effect) (ids ids' cpus' cpus : ℕ) → Uncut cut → effect_parts e' ids' < effect_parts e ids
    → parts_left cut e' ids' * 65 + count cpus' < parts_left cut e ids * 65 + count cpus
less-effect cut e e' ids ids' cpus' cpus uncut less =
    let before = parts-uncut cut e ids uncut in
    let after = parts-uncut cut e' ids' uncut in
    less-part _ _ cpus' cpus (omega arith)

-- ---- the same machine

module _ (kind : CallKind) (id : ℕ) (new : CellConfig) (m : Machine) where
  -- the parts of an effect on one cell, all of them stored
  abbrev numbers : Numbers
  numbers = numbers_there kind id new m (figures_of new)

  abbrev words : CommRegion
  words = words_there kind id new m (figures_of new)

  abbrev stored : Machine
  stored = parts_stored numbers id (cell_there kind id new m) words (cpus_after numbers m.cpus) m

  stored-cpus : length stored.cpus ≡ max_cpus
  unfolding change_cpus parts_stored
  stored-cpus = length-up_to _ max_cpus

  module _ (e : Effect) (one : OneCell e m.live_ids kind id) (r : Machine) (is : is_disable kind ≡ false → r ≡ effect kind id new m) where
    as-stored : r ≡ stored
    as-stored = is one.one ∙ sym (stored-is-effect kind id new m (figures_of new) _ _ _ _ one.one refl refl refl refl refl)

    -- after a change of one cell the table has its size
    pub change-size : length r.cpus ≡ max_cpus
    change-size = ap (λ (x : Machine). length x.cpus) as-stored ∙ stored-cpus

    module _ (e' : Effect) (is_rest : e' ≡ rest_of e) where
      -- the rest of the effect is less
      pub change-less : effect_parts e' r.live_ids < effect_parts e m.live_ids
      unfolding parts_stored
      change-less =
          let less = one.less (cell_at m id) (figures_of new) m.pool_used m.root_cpus in
          let rest = ap (λ (x : Effect). effect_parts x r.live_ids) is_rest in
          let ids = ap (λ (x : Machine). effect_parts (rest_of e) x.live_ids) as-stored in
          sums _ _ _ _ less rest ids
        where
          sums : (a b c d : ℕ) → a < b → d ≡ c → c ≡ a → d < b
          sums a b c d h i j = omega arith

      -- and makes the same machine
      pub change-applied : length m.cpus ≡ max_cpus → (how : CpuChange) (cut : Option ℕ) (cpus : ℕ) → cpus ≡ 0 → Uncut cut
          → remaining cpus how cut e' new r ≡ remaining cpus how cut e new m
      unfolding remaining parts_stored cpus_changed with_cpus
      change-applied size how cut cpus none uncut =
          only-rest r change-size how cut e' new cpus none
          ∙ ap (λ (x : Machine). effect_of e' new (cut_off_at cut x)) as-stored
          ∙ ap (λ (x : Effect). effect_of x new (cut_off_at cut stored)) is_rest
          ∙ cell-applied m size how cut e new cpus none uncut m.live_ids refl kind id one (figures_of new) numbers (cell_there kind id new m) words refl refl refl refl
