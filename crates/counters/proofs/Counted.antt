-- Every CPU's counters are the history's counts. Machine and history agree on which cells live and what their records name, so a CPU changes hands in
-- both with the same event; what an event adds before the wrap it adds after it; and from boot, where all is zero, the lines keep this one by one.
-- Assumes nothing.
use Rattle.std.proofs.Common.{◌≡◌, refl, sym, ap, ap₂, ◌∙◌, Bool, true, false, not, ◌&&◌, ◌||◌, List, [], ◌∷◌, ℕ, ◌≤◌, ◌<◌, arith, eqb, length, set, get_or-set_same, get_or-set_other, eqb-true, ltb-false}
use Rattle.std.proofs.lemmas.Bool.{eqb-false}
use Rattle.std.proofs.Math.ListN.{get_or-replicate}
use Rattle.cpu_set.specs.CpuSet.{member}
use Rattle.system_record.specs.declared.SystemConfig.{SystemConfig}
use Rattle.system_record.specs.SystemRecord.{system_of}
use Rattle.cell_record.specs.declared.CellConfig.{CellConfig}
use Rattle.cell_record.specs.CellRecord.{cell_of}
use Rattle.machine_state.specs.declared.Cpu.{Cpu}
use Rattle.machine_state.specs.declared.Event.{Event}
use Rattle.machine_state.specs.declared.Event.TheVariants.{Call, Store, Fault, Exit, Poll, Malformed}
use Rattle.machine_state.specs.declared.Answer.{Answer}
use Rattle.machine_state.specs.declared.Answer.TheVariants.{Done}
use Rattle.machine_state.specs.declared.Machine.{Machine}
use Rattle.machine_state.specs.declared.Stepped.{Stepped}
use Rattle.machine_state.specs.Machine.{fresh_cpu, first_machine, boot_of, past_cpu}
use Rattle.rules.specs.State.{live, cell_at, cpu_at, with_cpus, with_comm, answered}
use Rattle.rules.specs.Unobeyed.{unobeyed, is_obeyed}
use Rattle.rules.specs.Answers.{is_unobeyed}
use Rattle.rules.specs.Effects.{bump, counted, count_exit, call_counter, exit_counter, stored, fail_cpu, faulted}
use Rattle.rules.specs.Step.{obeyed, step}
use Rattle.rules.specs.Run.{Line, start_of, run, after}
use Rattle.rules.proofs.Cases.{NoneApplies, no_row, fault-cases, step-cases}
use Rattle.rules.proofs.Places.{read_kept}
use Rattle.history.specs.History.{Created, History, has_cell, record_brought, seen, history_from, nothing_yet}
use Rattle.reached.proofs.Table.{table_of, counted_same}
use Rattle.reached.proofs.Settled.{Follows}
use Rattle.reached.proofs.Walk.{Agrees, agrees-still}
use Rattle.reached.proofs.Runs.{step-agrees, reached-agrees}
use Rattle.counters.specs.Counters.{total, adds_to, adds, only_in, is_reset, tallied, count_from, figures, CountersCount}
use Rattle.counters.proofs.Resets.{zeros, counters_of, lives_only, changes_hands, or_zeros, Resets, resets_none, any_same}
use Rattle.counters.proofs.Figures.{figures-same, figures-zero, Ticked, ticked}
use Rattle.counters.proofs.Steps.{call-goes, poll-goes}

module _ (k : ℕ) (below : k < 64) (boot : SystemConfig) where
  -- ---- a CPU changes hands in the machine where it does in the history

  same-only : (cs ds : List Created) (m n : Machine) → Follows boot cs (table_of m) → Follows boot ds (table_of n) → lives_only k m n ≡ only_in k cs ds
  unfolding lives_only only_in
  same-only cs ds m n f g = any_same _ _ 1 15 (λ id l. at id (λ q. omega arith) (has_cell id cs) refl)
    where
      at : (id : ℕ) → (id ≡ 0 → ⊥) → (b : Bool) → has_cell id cs ≡ b
          → (live m id && not (live n id) && member k (cell_at m id).cpus) ≡ (has_cell id cs && not (has_cell id ds) && member k (record_brought id cs).cpus)
      at id o true e =
          ap₂ (λ (a b : Bool). a && not b && member k (cell_at m id).cpus) (f.lives id o) (g.lives id o)
          ∙ ap (λ (c : CellConfig). has_cell id cs && not (has_cell id ds) && member k c.cpus) (f.records id e)
      at id o false e =
          ap (λ (a : Bool). a && not (live n id) && member k (cell_at m id).cpus) (f.lives id o ∙ e)
          ∙ sym (ap (λ (a : Bool). a && not (has_cell id ds) && member k (record_brought id cs).cpus) e)

  same-hands : (h g : History) (m n : Machine) → Agrees boot h m → Agrees boot g n → changes_hands k m n ≡ is_reset k h.cells g.cells
  unfolding is_reset
  same-hands h g m n a b =
      ap₂ (λ (x y : Bool). x || y)
      (same-only g.cells h.cells n m b.settled.follows a.settled.follows)
      (same-only h.cells g.cells m n a.settled.follows b.settled.follows)

  -- ---- one event

  module _ (h : History) (m : Machine) (a : Agrees boot h m) (n : ℕ → ℕ) (c : counters_of k m ≡ figures n) where
    -- what the event adds, and the reset
    with-reset : (r : Bool) (kept : List ℕ) (one : ℕ → Bool) → kept ≡ figures (λ i. tallied false (one i) (n i))
        → or_zeros r kept ≡ figures (λ i. tallied r (one i) (n i))
    unfolding or_zeros tallied
    with-reset true kept one e = figures-zero
    with-reset false kept one e = e

    -- nothing is added
    as_it_was : (one : ℕ → Bool) → ((i : ℕ) → one i ≡ false) → counters_of k m ≡ figures (λ i. tallied false (one i) (n i))
    unfolding tallied
    as_it_was one e = c ∙ figures-same n _ (λ i. sym (ap (λ (b : Bool). tallied false b (n i)) (e i)))

    -- CPU `cpu` is counted
    counts : (own cpu : ℕ) → 1 ≤ own → own ≤ 5
        → counters_of k (counted own cpu m) ≡ figures (λ i. tallied false (eqb cpu k && (eqb i total || eqb i own)) (n i))
    unfolding counted with_cpus count_exit Ticked
    counts own cpu low high = go (eqb cpu k) refl
      where
        go : (b : Bool) → eqb cpu k ≡ b → counters_of k (counted own cpu m) ≡ figures (λ i. tallied false (b && (eqb i total || eqb i own)) (n i))
        go true e =
            let inside : k < length m.cpus = let r : length m.cpus ≡ 64 = a.settled.sound.cpus-room in omega arith in
            ap (λ (j : ℕ). counters_of k (counted own j m)) (eqb-true cpu k e)
            ∙ ap (λ (p : Cpu). p.counters) (get_or-set_same m.cpus k (count_exit own (cpu_at m k)) past_cpu inside)
            ∙ ap (λ (l : List ℕ). bump own (bump 0 l)) c
            ∙ ticked n own low high
        go false e =
            ap (λ (p : Cpu). p.counters) (get_or-set_other m.cpus cpu k (count_exit own (cpu_at m cpu)) past_cpu (λ q. eqb-false cpu k e (sym q)))
            ∙ as_it_was (λ i. false) (λ i. refl)

    -- after a step that answered and left `s`
    Counts : Event → Stepped → Type 0
    Counts e s = counters_of k s.machine ≡ figures (λ i. tallied (changes_hands k m s.machine) (adds e s.answer k i) (n i))

    -- from what the machine keeps of the counters
    by-resets : (e : Event) (s : Stepped) (kept : List ℕ) → Resets k kept m s.machine
        → kept ≡ figures (λ i. tallied false (adds e s.answer k i) (n i)) → Counts e s
    unfolding Counts
    by-resets e s kept r f = r ∙ with-reset (changes_hands k m s.machine) kept (λ i. adds e s.answer k i) f

    -- nothing is added, and no cell comes or goes
    nothing-done : (e : Event) (s : Stepped) → ((i : ℕ) → adds e s.answer k i ≡ false) → s.machine.live_ids ≡ m.live_ids
        → counters_of k s.machine ≡ counters_of k m → Counts e s
    nothing-done e s none ids same =
        by-resets e s (counters_of k m) (resets_none k (counters_of k m) m s.machine ids same) (as_it_was (λ i. adds e s.answer k i) none)

    word-adds : (e : Event) (w : Answer) → is_unobeyed w ≡ true → (i : ℕ) → adds e w k i ≡ false
    unfolding adds adds_to
    word-adds (Call cpu code a1 a2) w u i = ap (λ (b : Bool). not b && eqb cpu k && (eqb i total || eqb i call_counter)) u
    word-adds (Store cpu word value) w u i = refl
    word-adds (Fault cpu) w u i = refl
    word-adds (Exit cpu kind) w u i = ap (λ (b : Bool). not b && eqb cpu k && (eqb i total || eqb i (exit_counter kind))) u
    word-adds Poll w u i = refl
    word-adds Malformed w u i = refl

    -- an obeyed event of CPU `cpu` that is counted: what it adds, whatever it answered
    heeded-adds : (own cpu : ℕ) (w : Answer) → is_unobeyed w ≡ false → (i : ℕ) → (eqb cpu k && (eqb i total || eqb i own)) ≡ adds_to cpu own w k i
    unfolding adds_to
    heeded-adds own cpu w u i = sym (ap (λ (b : Bool). not b && eqb cpu k && (eqb i total || eqb i own)) u)

    counts-as : (own cpu : ℕ) (w : Answer) → 1 ≤ own → own ≤ 5 → is_unobeyed w ≡ false
        → counters_of k (counted own cpu m) ≡ figures (λ i. tallied false (adds_to cpu own w k i) (n i))
    counts-as own cpu w low high u =
        counts own cpu low high ∙ figures-same _ _ (λ i. ap (λ (b : Bool). tallied false b (n i)) (heeded-adds own cpu w u i))

    -- exit kinds that are obeyed
    kind-small : (cpu kind : ℕ) → is_obeyed (Exit cpu kind) m ≡ true → kind ≤ 3
    unfolding unobeyed NoneApplies
    kind-small cpu kind e = ltb-false 3 kind (no_row (Exit cpu kind) m e).1.1.0

    base : (cpu : ℕ) → Agrees boot h (counted call_counter cpu m)
    unfolding counted with_cpus
    base cpu = agrees-still boot h m (counted call_counter cpu m) (counted_same call_counter cpu m) refl a

    obeyed-counts : (e : Event) (bytes : List ℕ) → is_obeyed e m ≡ true → Counts e (obeyed e bytes m)
    unfolding obeyed adds answered is_unobeyed stored faulted with_comm with_cpus fail_cpu counted lives_only
    obeyed-counts (Call cpu code a1 a2) bytes o =
        let went = call-goes k below boot h.cells (counted call_counter cpu m) (base cpu).settled cpu code a1 a2 bytes in
        by-resets (Call cpu code a1 a2) _ (counters_of k (counted call_counter cpu m)) went.resets
        (counts-as call_counter cpu _ (omega arith) (omega arith) went.heeded)
    obeyed-counts (Store cpu word value) bytes o = nothing-done (Store cpu word value) _ (λ i. refl) refl refl
    obeyed-counts (Fault cpu) bytes o =
        fault-cases (λ (next : Machine). Counts (Fault cpu) (answered Done next)) cpu m
        (nothing-done (Fault cpu) _ (λ i. refl) refl failed-keeps)
        (λ f. nothing-done (Fault cpu) _ (λ i. refl) refl failed-keeps)
      where
        failed-keeps : counters_of k (with_cpus (set m.cpus cpu (fail_cpu (cpu_at m cpu))) m) ≡ counters_of k m
        failed-keeps = read_kept past_cpu (λ (p : Cpu). p.counters) m.cpus cpu k (fail_cpu (cpu_at m cpu)) refl
    obeyed-counts (Exit cpu kind) bytes o =
        let small : kind ≤ 3 = kind-small cpu kind o in
        by-resets (Exit cpu kind) _ (counters_of k (counted (exit_counter kind) cpu m))
        (resets_none k (counters_of k (counted (exit_counter kind) cpu m)) m (counted (exit_counter kind) cpu m) refl refl)
        (counts-as (exit_counter kind) cpu _ (omega arith) (omega arith) refl)
    obeyed-counts Poll bytes o =
        by-resets Poll _ (counters_of k m) (poll-goes k below boot h.cells m a.settled m.waiting (cell_of bytes) a.waits) (as_it_was (λ i. false) (λ i. refl))
    obeyed-counts Malformed bytes o = nothing-done Malformed _ (λ i. refl) refl refl

    step_counts : (e : Event) (bytes : List ℕ) → Counts e (step e bytes m)
    unfolding answered
    step_counts e bytes =
        step-cases (Counts e) e bytes m (λ w u o. nothing-done e (answered w m) (word-adds e w u) refl refl) (λ o. obeyed-counts e bytes o)

  -- ---- a list of lines

  run-counts : (ls : List Line) (h : History) (m : Machine) → Agrees boot h m → (n : ℕ → ℕ) → counters_of k m ≡ figures n
      → counters_of k (after step m ls) ≡ figures (λ i. count_from k i h (n i) (run step m ls))
  unfolding after run count_from Counts
  run-counts [] h m a n c = c
  run-counts (l ∷ ls) h m a n c =
      let s = step l.event l.bytes m in
      let g = seen l.event l.bytes s.answer h in
      let b : Agrees boot g s.machine = step-agrees boot h m a l.event l.bytes in
      run-counts ls g s.machine b
      (λ i. tallied (is_reset k h.cells g.cells) (adds l.event s.answer k i) (n i))
      (step_counts h m a n c l.event l.bytes
      ∙ figures-same _ _ (λ i. ap (λ (r : Bool). tallied r (adds l.event s.answer k i) (n i)) (same-hands h g m s.machine a b)))

-- ---- from the start

started-zero : (k : ℕ) → k < 64 → (system : List ℕ) → counters_of k (start_of system) ≡ zeros
unfolding boot_of first_machine fresh_cpu
started-zero k below system = ap (λ (p : Cpu). p.counters) (get_or-replicate 64 k (fresh_cpu 0 false) past_cpu below)

pub counters-count : CountersCount step
unfolding after run history_from
counters-count system accepted lines k below =
    run-counts k below (system_of system) lines nothing_yet (start_of system) (reached-agrees system accepted []) (λ i. 0)
    (started-zero k below system ∙ figures-zero)
