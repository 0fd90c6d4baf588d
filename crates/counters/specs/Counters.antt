-- Exit counters. Document 01: "Exit counters use the supplied wrapping add, and their meaning is the history's count modulo 2^32", and "An obeyed
-- call or exit first adds one to its own counter and the total of that CPU". The count is read from events and answers alone; which CPUs an effect
-- resets, from the records that the history's Creates brought.
use Rattle.std.specs.Prelude.{◌≡◌, Bool, true, false, not, ◌&&◌, ◌||◌, List, [], ◌∷◌, map, ℕ, ◌+◌, ◌%◌, ◌^◌, ◌<◌, eqb}
use Rattle.base.specs.Lists.{any, up_to}
use Rattle.cpu_set.specs.CpuSet.{member}
use Rattle.machine_state.specs.declared.Event.{Event}
use Rattle.machine_state.specs.declared.Event.TheVariants.{Call, Exit}
use Rattle.machine_state.specs.declared.Answer.{Answer}
use Rattle.machine_state.specs.Machine.{max_cpus}
use Rattle.rules.specs.State.{cell_ids, cpu_at}
use Rattle.rules.specs.Answers.{is_unobeyed}
use Rattle.rules.specs.Effects.{call_counter, exit_counter}
use Rattle.rules.specs.Run.{Manager, Line, Happened, Accepted, start_of, run, after}
use Rattle.history.specs.History.{Created, History, has_cell, record_brought, seen, nothing_yet}

-- the counters: total, MMIO, PIO, IPI, management, calls
abbrev pub total : ℕ
total = 0

-- an obeyed event of CPU `caller` whose own counter is `own` adds one to counter `i` of CPU `cpu`
unfoldable pub adds_to : ℕ → ℕ → Answer → ℕ → ℕ → Bool
adds_to caller own answer cpu i = not (is_unobeyed answer) && eqb caller cpu && (eqb i total || eqb i own)

-- calls and exits count, and nothing else
unfoldable pub adds : Event → Answer → ℕ → ℕ → Bool
adds (Call caller code a1 a2) answer cpu i = adds_to caller call_counter answer cpu i
adds (Exit caller kind) answer cpu i = adds_to caller (exit_counter kind) answer cpu i
adds _ answer cpu i = false

-- a cell that names the CPU is among the first cells and not among the others
unfoldable pub only_in : ℕ → List Created → List Created → Bool
only_in cpu cells others = any (λ id. has_cell id cells && not (has_cell id others) && member cpu (record_brought id cells).cpus) cell_ids

-- "counters zero": Create's effect resets the new cell's CPUs, Destroy's and Disable's those given back
unfoldable pub is_reset : ℕ → List Created → List Created → Bool
is_reset cpu before after = only_in cpu after before || only_in cpu before after

-- a count after an event: reset, one more, or as it was
unfoldable pub tallied : Bool → Bool → ℕ → ℕ
tallied true one n = 0
tallied false true n = n + 1
tallied false false n = n

-- counter `i` of CPU `cpu` after a step between two histories, without the wrap
abbrev pub count_after : ℕ → ℕ → Happened → History → History → ℕ → ℕ
count_after cpu i s before after n = tallied (is_reset cpu before.cells after.cells) (adds s.line.event s.answer cpu i) n

-- and after the steps of a run
unfoldable pub count_from : ℕ → ℕ → History → ℕ → List Happened → ℕ
count_from cpu i h n [] = n
count_from cpu i h n (s ∷ ss) =
    let next = seen s.line.event s.line.bytes s.answer h in
    count_from cpu i next (count_after cpu i s h next n) ss

-- the history's count since the last reset
abbrev pub count_of : ℕ → ℕ → List Happened → ℕ
count_of cpu i steps = count_from cpu i nothing_yet 0 steps

-- "Counters are 32 bits wide": six figures
abbrev pub figures : (ℕ → ℕ) → List ℕ
figures count = map (λ i. count i % 2 ^ 32) (up_to 6)

-- "modulo 2^32", for each of the six counters of every CPU, in every state reached from an accepted start
abbrev pub CountersCount : Manager → Type 0
CountersCount manager =
    (system : List ℕ) → Accepted system → (lines : List Line) (cpu : ℕ) → cpu < max_cpus
    → (cpu_at (after manager (start_of system) lines) cpu).counters ≡ figures (λ i. count_of cpu i (run manager (start_of system) lines))
