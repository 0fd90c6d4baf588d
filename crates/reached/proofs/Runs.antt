-- The agreement of machine and history, from an accepted start and through every list of lines. Boot's rules give it at the start, where there
-- is no cell but root; each line keeps it. Assumes nothing.
use Rattle.std.proofs.Common.{◌≡◌, refl, sym, ap, ◌∙◌, subst, Bool, true, false, not, ◌&&◌, ◌||◌, true≢false, List, [], ◌∷◌, ℕ, ◌-◌, ◌^◌, ◌≤◌, ◌<◌, add-zero, arith, leb, ltb, eqb, ℤ, pos, negsuc, replicate, ltb-true, ltb-false, eqb-true, None, Some}
use Rattle.std.proofs.lemmas.Bool.{and_parts, false_from_ne_true, not-false, or_parts}
use Rattle.std.proofs.Math.ListN.{length-replicate, get_or-replicate, get_or-eq_default}
use Rattle.base.proofs.Rules.{by-rule, by-none}
use Rattle.base.proofs.Tests.{holds}
use Rattle.cpu_set.specs.CpuSet.{is_empty}
use Rattle.cpu_set.specs.CpuSet.{number_of}
use Rattle.system_record.specs.declared.SystemConfig.{SystemConfig}
use Rattle.system_record.specs.SystemRecord.{system_of, system_form, system_valid, too_many, out_of_range, overdrawn, boot_answer}
use Rattle.machine_state.specs.declared.Cpu.{Cpu}
use Rattle.machine_state.specs.declared.Event.{Event}
use Rattle.machine_state.specs.declared.Event.TheVariants.{Call, Store, Fault, Exit, Poll, Malformed}
use Rattle.machine_state.specs.declared.Answer.{Answer}
use Rattle.machine_state.specs.declared.Answer.TheVariants.{Off, Bad, Stopped, Held, Idle}
use Rattle.machine_state.specs.declared.Power.{Power}
use Rattle.machine_state.specs.declared.Machine.{Machine}
use Rattle.machine_state.specs.declared.Stepped.{Stepped}
use Rattle.machine_state.specs.Machine.{fresh_cpu, no_cell, no_comm, first_machine, power_after, boot_of, past_cpu, cpu_in}
use Rattle.rules.specs.State.{root_id, has_id, waits, with_cpus, with_comm, answered, waited_for}
use Rattle.rules.specs.Unobeyed.{is_on, unobeyed}
use Rattle.rules.specs.Effects.{counted, call_counter, exit_counter, stored, faulted}
use Rattle.rules.specs.Answers.{is_negative}
use Rattle.rules.specs.Step.{obeyed, step}
use Rattle.rules.specs.Run.{Line, run, after, Accepted, start_of}
use Rattle.rules.proofs.Ids.{has_id-lt, has-where}
use Rattle.history.specs.History.{History, Ahead, has_cell, nothing_yet, answered_by, after_call, after_poll, after_telling, seen, history_from, history}
use Rattle.reached.specs.Pool.{costs}
use Rattle.reached.proofs.Table.{Table, table_of, counted_same, stored_same, faulted-same, faulted-waiting}
use Rattle.reached.proofs.Sound.{IsCell, Sound}
use Rattle.reached.proofs.Walk.{ahead_in, Agrees, agrees-still, Agree}
use Rattle.reached.proofs.Steps.{poll-agrees, calls}

-- ---- one event

module _ (boot : SystemConfig) where
  -- a word leaves the history as it was
  either : {A : Type 0} (b : Bool) (x : A) → elim b [ true ↦ x | false ↦ x ] ≡ x
  either true x = refl
  either false x = refl

  words : (code a1 : ℕ) (bytes : List ℕ) (h : History)
      → (after_call code a1 bytes Off h ≡ h) × (after_call code a1 bytes Bad h ≡ h) × (after_call code a1 bytes Stopped h ≡ h) × (after_call code a1 bytes Held h ≡ h)
  unfolding after_call is_negative answered_by
  words code a1 bytes h = let b : Bool = leb code 4 && true in (either b h, either b h, either b h, either b h)

  idle-keeps : (x : Ahead) (h : History) → (after_poll x Off h ≡ h) × (after_poll x Idle h ≡ h)
  unfolding after_poll after_telling answered_by
  idle-keeps None h = (refl, refl)
  idle-keeps (Some (kind, target)) h = (refl, refl)

  module _ (h : History) (m : Machine) (a : Agrees boot h m) where
    call_step : (cpu code a1 a2 : ℕ) (bytes : List ℕ) → Agree boot (λ r. after_call code a1 bytes r h) (step (Call cpu code a1 a2) bytes m)
    unfolding step unobeyed obeyed answered counted with_cpus
    call_step cpu code a1 a2 bytes =
        by-rule P _ _ _ (λ e. word Off (words code a1 bytes h).0)
        (λ on. by-rule P _ _ _ (λ e. word Bad (words code a1 bytes h).1)
        (λ e. by-rule P _ _ _ (λ e. word Stopped (words code a1 bytes h).2)
        (λ e. by-rule P _ _ _ (λ e. word Held (words code a1 bytes h).3)
        (λ held. by-none P _
        (calls boot h (counted call_counter cpu m) (agrees-still boot h m (counted call_counter cpu m) (counted_same call_counter cpu m) refl a) cpu code a1 a2 bytes
        (not-false (is_on m.power) on)
        (ap (λ (n : ℕ). eqb n root_id && waits m.waiting) (ap (λ (t : Table). t.owner cpu) (counted_same call_counter cpu m)) ∙ held))))))
      where
        P : Stepped → Type 0
        P = Agree boot (λ r. after_call code a1 bytes r h)

        word : (w : Answer) → after_call code a1 bytes w h ≡ h → Agrees boot (after_call code a1 bytes w h) m
        word w e = subst (λ (g : History). Agrees boot g m) (sym e) a

    poll-step : (bytes : List ℕ) → Agree boot (λ r. after_poll h.ahead r h) (step Poll bytes m)
    unfolding step unobeyed obeyed answered
    poll-step bytes =
        by-rule P _ _ _ (λ e. subst (λ (g : History). Agrees boot g m) (sym (idle-keeps h.ahead h).0) a)
        (λ on. by-rule P _ _ _ (λ e. subst (λ (g : History). Agrees boot g m) (sym (idle-keeps h.ahead h).1) a)
        (λ e. by-none P _ (poll-agrees boot h m _ a (not-false (is_on m.power) on) m.waiting refl)))
      where
        P : Stepped → Type 0
        P = Agree boot (λ r. after_poll h.ahead r h)

    -- the others do not change the history
    P : Stepped → Type 0
    P s = Agrees boot h s.machine

    store_step : (cpu word value : ℕ) (bytes : List ℕ) → Agrees boot h (step (Store cpu word value) bytes m).machine
    unfolding step unobeyed obeyed answered stored with_comm P
    store_step cpu word value bytes =
        by-rule P _ _ _ (λ e. a)
        (λ e. by-rule P _ _ _ (λ e. a)
        (λ e. by-rule P _ _ _ (λ e. a)
        (λ e. by-rule P _ _ _ (λ e. a)
        (λ e. by-rule P _ _ _ (λ e. a) (λ e. by-none P _ (agrees-still boot h m (stored cpu word value m) (stored_same cpu word value m) refl a))))))

    fault-step : (cpu : ℕ) (bytes : List ℕ) → Agrees boot h (step (Fault cpu) bytes m).machine
    unfolding step unobeyed obeyed answered P
    fault-step cpu bytes =
        by-rule P _ _ _ (λ e. a)
        (λ e. by-rule P _ _ _ (λ e. a)
        (λ e. by-rule P _ _ _ (λ e. a)
        (λ e. by-rule P _ _ _ (λ e. a) (λ e. by-none P _ (agrees-still boot h m (faulted cpu m) (faulted-same cpu m) (faulted-waiting cpu m) a)))))

    exit-step : (cpu kind : ℕ) (bytes : List ℕ) → Agrees boot h (step (Exit cpu kind) bytes m).machine
    unfolding step unobeyed obeyed answered counted with_cpus P
    exit-step cpu kind bytes =
        by-rule P _ _ _ (λ e. a)
        (λ e. by-rule P _ _ _ (λ e. a)
        (λ e. by-rule P _ _ _ (λ e. a)
        (λ e. by-rule P _ _ _ (λ e. a)
        (λ e. by-rule P _ _ _ (λ e. a)
        (λ e. by-none P _ (agrees-still boot h m (counted (exit_counter kind) cpu m) (counted_same (exit_counter kind) cpu m) refl a))))))

    malformed-step : (bytes : List ℕ) → Agrees boot h (step Malformed bytes m).machine
    unfolding step unobeyed obeyed answered P
    malformed-step bytes = by-rule P _ _ _ (λ e. a) (λ e. by-rule P _ _ _ (λ e. a) (λ e. by-none P _ a))

    pub step-agrees : (e : Event) (bytes : List ℕ) → Agree boot (λ r. seen e bytes r h) (step e bytes m)
    unfolding seen
    step-agrees (Call cpu code a1 a2) bytes = call_step cpu code a1 a2 bytes
    step-agrees (Store cpu word value) bytes = store_step cpu word value bytes
    step-agrees (Fault cpu) bytes = fault-step cpu bytes
    step-agrees (Exit cpu kind) bytes = exit-step cpu kind bytes
    step-agrees Poll bytes = poll-step bytes
    step-agrees Malformed bytes = malformed-step bytes

  -- ---- a list of lines
  pub run-agrees : (ls : List Line) (h : History) (m : Machine) → Agrees boot h m → Agrees boot (history_from h (run step m ls)) (after step m ls)
  unfolding history_from run after
  run-agrees [] h m a = a
  run-agrees (l ∷ ls) h m a = run-agrees ls _ _ (step-agrees h m a l.event l.bytes)

-- ---- the start

-- what an accepted record keeps
pub record Kept (system : SystemConfig) : Type 0 where
  pub rules : system_valid system ≡ true
  pub range : out_of_range system ≡ false
  pub room : overdrawn system ≡ false

pub accepted-keeps : (bytes : List ℕ) → Accepted bytes → Kept (system_of bytes)
unfolding boot_answer
accepted-keeps bytes e =
    by-rule P _ _ _ (λ q r. no_answer r)
    (λ form. by-rule P _ _ _ (λ q r. no_answer r)
    (λ range. by-rule P _ _ _ (λ q r. no_answer r)
    (λ room. by-none P (pos 0)
    (λ r. record { rules = (and_parts (system_form bytes) _ (not-false (system_form bytes && system_valid (system_of bytes)) form)).1; range = range; room = room })))) e
  where
    P : ℤ → Type 0
    P z = z ≡ pos 0 → Kept (system_of bytes)

    no_answer : {A : Type 0} {n : ℕ} → negsuc n ≡ pos 0 → A
    no_answer q = let z : ◌≡◌ {A = ℕ} 0 1 = cc in absurd (omega arith)

module _ (power : Power) (system : SystemConfig) (k : Kept system) where
  abbrev start : Machine
  start = first_machine power system

  -- root alone is live
  only-root : (id : ℕ) → has_id 1 id ≡ (ltb id 16 && eqb id 0)
  unfolding number_of
  only-root id = has-where (λ n. eqb n 0) id

  no_cell_lem : (id : ℕ) → has_id 1 id ≡ true → id ≡ 0
  no_cell_lem id e = eqb-true id 0 (and_parts (ltb id 16) (eqb id 0) (sym (only-root id) ∙ e)).1

  none : (id : ℕ) → IsCell (table_of start) id → ⊥
  unfolding first_machine
  none id c = c.other (no_cell_lem id c.lives)

  all-root : (n : ℕ) → (cpu_in (replicate 64 (fresh_cpu 0 false)) n).cell ≡ 0
  unfolding fresh_cpu
  all-root n = go (ltb n 64) refl
    where
      go : (b : Bool) → ltb n 64 ≡ b → (cpu_in (replicate 64 (fresh_cpu 0 false)) n).cell ≡ 0
      go true e = ap (λ (p : Cpu). p.cell) (get_or-replicate 64 n (fresh_cpu 0 false) past_cpu (ltb-true n 64 e))
      go false e = ap (λ (p : Cpu). p.cell) (get_or-eq_default (replicate 64 (fresh_cpu 0 false)) past_cpu (ltb-false n 64 e))

  fourth : (a b c d e : Bool) → (a || b || c || d || e) ≡ false → d ≡ false
  fourth true b c d e q = absurd (true≢false q)
  fourth false true c d e q = absurd (true≢false q)
  fourth false false true d e q = absurd (true≢false q)
  fourth false false false true e q = absurd (true≢false q)
  fourth false false false false e q = refl

  pool-small : system.pool.pages < 2 ^ 31
  unfolding out_of_range
  pool-small =
      let rest : (too_many system.pool.pages || too_many system.pool.used) ≡ false = fourth (not (leb 1 system.possible && leb system.possible 64)) (is_empty system.cpus) _ _ _ k.range in
      let few : too_many system.pool.pages ≡ false = (or_parts (too_many system.pool.pages) _ rest).0 in
      let bound : system.pool.pages ≤ 2 ^ 31 - 1 = ltb-false (2 ^ 31 - 1) system.pool.pages few in
      omega arith

  pool-fits : system.pool.used ≤ system.pool.pages
  unfolding overdrawn
  pool-fits = ltb-false system.pool.pages system.pool.used (or_parts (ltb system.pool.pages system.pool.used) _ k.room).0

  sound-start : Sound (table_of start)
  unfolding first_machine has_id
  sound-start = record {
    cells-room = length-replicate 16 no_cell;
    comms-room = length-replicate 16 no_comm;
    cpus-room = length-replicate 64 (fresh_cpu 0 false);
    accepted = k.rules;
    pool-small = pool-small;
    root-lives = refl;
    few = λ id l. has_id-lt 1 id (holds l);
    valid = λ id c. absurd (none id c);
    with-region = λ id c. absurd (none id c);
    apart = λ i j c d n. absurd (none i c);
    root-started = λ n r. r;
    root-free = λ n r i c m. none i c;
    root-rest = λ n b f. b;
    cell-owns = λ n i c m. absurd (none i c);
    root-owns = λ n r. all-root n;
    pool-fits = pool-fits;
  }

  start-agrees : Agrees system nothing_yet start
  unfolding first_machine has_cell costs ahead_in waited_for
  start-agrees = record {
    settled = record {
      sound = sound-start;
      follows = record {
        lives = λ id n. false_from_ne_true _ (λ e. n (no_cell_lem id e));
        no-root = refl;
        records = λ id e. absurd (true≢false (sym e));
        distinct = tt;
        pool = sym (add-zero system.pool.used);
        off = λ e. refl;
        booted = refl;
      };
    };
    waits = tt;
    ahead = refl;
    waited = refl;
  }

-- in every state that is reached machine and history agree
pub reached-agrees : (bytes : List ℕ) → Accepted bytes → (ls : List Line)
    → Agrees (system_of bytes) (history step (start_of bytes) ls) (after step (start_of bytes) ls)
unfolding boot_of
reached-agrees bytes e ls = run-agrees (system_of bytes) ls nothing_yet (start_of bytes) (start-agrees (power_after (boot_answer bytes)) (system_of bytes) (accepted-keeps bytes e))
