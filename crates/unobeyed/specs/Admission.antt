-- What a function that admits an event says: it is the answer of `rules`' table of refusals, as a result.
use Rattle.std.specs.Prelude.{◌≡◌, Bool, false, List, [], ◌∷◌, ℕ, ◌<◌, ◌≤◌, Result, Ok, Err}
use Rattle.base.specs.Rules.{Refusal, first_rule, ◌⇒◌}
use Rattle.machine_state.specs.declared.Event.{Event}
use Rattle.machine_state.specs.declared.Event.TheVariants.{Call, Store, Fault, Exit, Poll, Malformed}
use Rattle.machine_state.specs.declared.Answer.{Answer}
use Rattle.machine_state.specs.declared.Answer.TheVariants.{Bad}
use Rattle.machine_state.specs.declared.Machine.{Machine}
use Rattle.machine_state.specs.declared.Stepped.{Stepped}
use Rattle.machine_state.specs.Machine.{max_cells, max_cpus}
use Rattle.rules.specs.State.{cpu_at, answered}
use Rattle.rules.specs.Unobeyed.{off, bad_cpu, stopped, held, unobeyed}

-- an event is admitted, or refused with an answer
abbrev pub Admission : Type 0
Admission = Result (Unit {0}) Answer

-- what an admission makes of an event that does `otherwise` where it is admitted: a refused one changes nothing
unfoldable pub admitted : Admission → Stepped → Machine → Stepped
admitted (Ok tt) otherwise m = otherwise
admitted (Err answer) otherwise m = answered answer m

-- an admission is the answer of a table of refusals of a machine
abbrev pub Follows : Admission → List (Refusal Stepped) → Machine → Type 0
Follows r rows m = (otherwise : Stepped) → admitted r otherwise m ≡ first_rule rows otherwise

-- the rows that look at the event's CPU alone
abbrev pub AdmitsOwn : Machine → ℕ → Admission → Type 0
AdmitsOwn m cpu r = Follows r (stopped cpu m ∷ held cpu m ∷ []) m

-- the rows of every event on a CPU; an admitted one is on a CPU that the table has
abbrev pub cpu_rows : ℕ → Bool → Machine → List (Refusal Stepped)
cpu_rows cpu bad m = off m ∷ bad_cpu cpu m ∷ (bad ⇒ answered Bad m) ∷ stopped cpu m ∷ held cpu m ∷ []

pub record AdmitsOn (m : Machine) (cpu : ℕ) (bad : Bool) (r : Admission) : Type 0 where
  pub follows : Follows r (cpu_rows cpu bad m) m
  pub in_table : r ≡ Ok tt → cpu < max_cpus
  pub not_bad : r ≡ Ok tt → bad ≡ false

-- the numbers of an admitted event name places of the tables: its CPU, an exit's counter, the cell whose words are stored to
unfoldable pub Placed : Machine → Event → Type 0
Placed m (Call cpu code a1 a2) = cpu < max_cpus
Placed m (Store cpu word value) = (cpu < max_cpus) × ((cpu_at m cpu).cell < max_cells)
Placed m (Fault cpu) = cpu < max_cpus
Placed m (Exit cpu kind) = (cpu < max_cpus) × (kind ≤ 3)
Placed m Poll = Unit {0}
Placed m Malformed = Unit {0}

pub record Admits (m : Machine) (e : Event) (r : Admission) : Type 0 where
  pub follows : Follows r (unobeyed e m) m
  pub placed : r ≡ Ok tt → Placed m e
