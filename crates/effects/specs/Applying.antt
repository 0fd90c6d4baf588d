-- A decision's effects, applied part by part in place: what is left to be applied, and which part comes next. `Applying` of the proofs says that
-- each part, stored, leaves the same machine in the end.
use Rattle.std.specs.Prelude.{◌≡◌, ℕ, ◌+◌, ◌<◌, ◌≤◌, true, false, nat_lt, Option, None, Some}
use Rattle.cpu_set.specs.CpuSet.{member}
use Rattle.cell_record.specs.declared.CellConfig.{CellConfig}
use Rattle.machine_state.specs.declared.Cell.{Cell}
use Rattle.machine_state.specs.declared.CallKind.{CallKind}
use Rattle.machine_state.specs.declared.CallKind.TheVariants.{Disable, Create, Start, SetLoadable, Destroy}
use Rattle.machine_state.specs.declared.Power.TheVariants.{Disabled}
use Rattle.machine_state.specs.declared.Machine.{Machine}
use Rattle.machine_state.specs.Machine.{max_cells, max_cpus}
use Rattle.rules.specs.State.{with_power}
use Rattle.rules.specs.Effects.{cpus_changed, effect}
use Rattle.cpu_table.specs.declared.CpuChange.{CpuChange}
use Rattle.cpu_table.specs.CpuTable.{change_of}
use Rattle.id_set.specs.Ids.{id_count}
use Rattle.asking.specs.Moves.{Effect, effect_of, cut_off_at}
use Rattle.effects.specs.declared.Figures.{Figures}
use Rattle.effects.specs.declared.Part.{Part}
use Rattle.effects.specs.Parts.{is_disable, numbers_after}

-- the machine once all that is left is applied: a change of CPUs first, then the cell that is cut off, then the effect
unfoldable pub remaining : ℕ → CpuChange → Option ℕ → Effect → CellConfig → Machine → Machine
remaining cpus how cut e new m = effect_of e new (cut_off_at cut (cpus_changed cpus (change_of how) m))

-- what is left of an effect after a change of one cell: "all cells destroyed, then off" has one cell less
abbrev pub rest_of : Effect → Effect
rest_of None = None
rest_of (Some (Disable, id)) = Some (Disable, id)
rest_of (Some (Create, id)) = None
rest_of (Some (Start, id)) = None
rest_of (Some (SetLoadable, id)) = None
rest_of (Some (Destroy, id)) = None

-- how many parts an effect and a cell that is cut off have at most, with these live IDs
unfoldable pub effect_parts : Effect → ℕ → ℕ
effect_parts None ids = 0
effect_parts (Some (Disable, id)) ids = 1 + id_count ids
effect_parts (Some (Create, id)) ids = 1
effect_parts (Some (Start, id)) ids = 1
effect_parts (Some (SetLoadable, id)) ids = 1
effect_parts (Some (Destroy, id)) ids = 1

unfoldable pub parts_left : Option ℕ → Effect → ℕ → ℕ
parts_left None e ids = effect_parts e ids
parts_left (Some cut) e ids = elim (nat_lt cut max_cells) [ true ↦ 1 + effect_parts e ids | false ↦ effect_parts e ids ]

-- the next part is one change of a cell: with it and the rest the effect is whole, and fewer parts are left
pub record OneCell (e : Effect) (ids : ℕ) (kind : CallKind) (id : ℕ) : Type 0 where
  pub one : is_disable kind ≡ false
  pub whole : (new : CellConfig) (m : Machine) → m.live_ids ≡ ids → effect_of (rest_of e) new (effect kind id new m) ≡ effect_of e new m
  pub less : (c : Cell) (f : Figures) (pool root : ℕ) → effect_parts (rest_of e) (numbers_after kind id c f pool ids root).live_ids < effect_parts e ids

-- it is the machine switched off
pub record SwitchedOff (e : Effect) (ids : ℕ) : Type 0 where
  pub whole : (new : CellConfig) (m : Machine) → m.live_ids ≡ ids → with_power Disabled m ≡ effect_of e new m
  pub less : 0 < effect_parts e ids

-- the next part of an effect, once no CPU is to be changed and no cell to be cut off
unfoldable pub EffectPart : CallKind → ℕ → ℕ → Part → Type 0
EffectPart kind id ids (Part.Cpu k) = ⊥
EffectPart kind id ids (Part.CutOff cell) = ⊥
EffectPart kind id ids (Part.Change change cell) = OneCell (Some (kind, id)) ids change cell
EffectPart kind id ids Part.Off = SwitchedOff (Some (kind, id)) ids

-- no cell is left to be cut off; a number past the table names none
unfoldable pub Uncut : Option ℕ → Type 0
Uncut None = Unit {0}
Uncut (Some cut) = max_cells ≤ cut

-- what the next part says: CPUs are changed before anything else, and a cell is cut off before the effect
unfoldable pub IsNext : ℕ → Option ℕ → Effect → ℕ → Option Part → Type 0
IsNext cpus cut e ids (Some (Part.Cpu k)) = (k < max_cpus) × (member k cpus ≡ true)
IsNext cpus cut e ids (Some (Part.CutOff cell)) = (cpus ≡ 0) × (cut ≡ Some cell) × (cell < max_cells)
IsNext cpus cut e ids (Some (Part.Change kind id)) = (cpus ≡ 0) × Uncut cut × OneCell e ids kind id
IsNext cpus cut e ids (Some Part.Off) = (cpus ≡ 0) × Uncut cut × SwitchedOff e ids
IsNext cpus cut e ids None = (cpus ≡ 0) × Uncut cut × (e ≡ None)
