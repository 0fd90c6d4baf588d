-- Events that are not obeyed. Document 01, the section of that name: a row for each word, "tested in this order". "These change nothing at
-- all": each row gives its word and the machine as it was.
use Rattle.std.specs.Prelude.{Bool, true, false, not, ◌&&◌, ◌||◌, List, [], ◌∷◌, ℕ, ltb, eqb}
use Rattle.base.specs.Lists.{any}
use Rattle.base.specs.Rules.{Refusal, ◌⇒◌}
use Rattle.cpu_set.specs.CpuSet.{member}
use Rattle.machine_state.specs.declared.Power.{Power}
use Rattle.machine_state.specs.declared.Power.TheVariants.{On}
use Rattle.machine_state.specs.declared.Event.{Event}
use Rattle.machine_state.specs.declared.Event.TheVariants.{Call, Store, Fault, Exit, Poll, Malformed}
use Rattle.machine_state.specs.declared.Answer.TheVariants.{Off, Bad, Stopped, Held, Denied, Idle}
use Rattle.machine_state.specs.declared.Machine.{Machine}
use Rattle.machine_state.specs.declared.Stepped.{Stepped}
use Rattle.rules.specs.State.{root_id, boot_cpu_set, comm_at, cpu_at, is_final, waits, answered}

-- "off | not booted, or after Disable succeeded"
abbrev pub is_on : Power → Bool
is_on On = true
is_on _ = false

abbrev pub off : Machine → Refusal Stepped
off m = not (is_on m.power) ⇒ answered Off m

-- "bad | CPU outside the boot set, exit kind above 3, malformed line"
abbrev pub bad_cpu : ℕ → Machine → Refusal Stepped
bad_cpu cpu m = not (member cpu (boot_cpu_set m)) ⇒ answered Bad m

abbrev pub bad_kind : ℕ → Machine → Refusal Stepped
bad_kind kind m = ltb 3 kind ⇒ answered Bad m

abbrev pub bad_line : Machine → Refusal Stepped
bad_line m = true ⇒ answered Bad m

-- "stopped | CPU stopped or failed"
abbrev pub stopped : ℕ → Machine → Refusal Stepped
stopped cpu m = (cpu_at m cpu).stopped || (cpu_at m cpu).failed ⇒ answered Stopped m

-- "held | event on a root CPU while a call waits"
abbrev pub held : ℕ → Machine → Refusal Stepped
held cpu m = eqb (cpu_at m cpu).cell root_id && waits m.waiting ⇒ answered Held m

-- "denied | store by root, by a cell with no comm region, to a word above 2, or to the state word once final"
unfoldable pub store_denied : ℕ → ℕ → Machine → Bool
store_denied cpu word m =
    let cell = (cpu_at m cpu).cell in
    eqb cell root_id || not (comm_at m cell).mapped || ltb 2 word || eqb word 2 && is_final (comm_at m cell).cell_state

abbrev pub denied : ℕ → ℕ → Machine → Refusal Stepped
denied cpu word m = store_denied cpu word m ⇒ answered Denied m

-- "idle | poll with no call waiting"
abbrev pub idle : Machine → Refusal Stepped
idle m = not (waits m.waiting) ⇒ answered Idle m

-- the rows that can apply to an event. A poll has no CPU, a malformed line looks at none
unfoldable pub unobeyed : Event → Machine → List (Refusal Stepped)
unobeyed (Call cpu code a1 a2) m = off m ∷ bad_cpu cpu m ∷ stopped cpu m ∷ held cpu m ∷ []
unobeyed (Store cpu word value) m = off m ∷ bad_cpu cpu m ∷ stopped cpu m ∷ held cpu m ∷ denied cpu word m ∷ []
unobeyed (Fault cpu) m = off m ∷ bad_cpu cpu m ∷ stopped cpu m ∷ held cpu m ∷ []
unobeyed (Exit cpu kind) m = off m ∷ bad_cpu cpu m ∷ bad_kind kind m ∷ stopped cpu m ∷ held cpu m ∷ []
unobeyed Poll m = off m ∷ idle m ∷ []
unobeyed Malformed m = off m ∷ bad_line m ∷ []

-- an event is obeyed where none of them applies
unfoldable pub is_obeyed : Event → Machine → Bool
is_obeyed e m = not (any (λ (r : Refusal Stepped). r.when) (unobeyed e m))
