-- Demand 3 of our manager. The call goes as its account begins (Begin); along every list the machine follows the account (Runs), so that each poll
-- is an own step (Own) and each other event keeps the table (Others); the effect is counted once (Progress), and messages are bounded (Messages,
-- Bound). Assumes nothing.
use Rattle.std.proofs.Common.{true, false, not, ◌≡◌, refl, sym, ap, ◌∙◌, subst, inl, List, [], ◌∷◌, ◌++◌, ℕ, ◌+◌, ◌≤◌, ◌<◌, arith}
use Rattle.machine_state.specs.declared.Machine.{Machine}
use Rattle.rules.specs.State.{limit_at, waits}
use Rattle.rules.specs.Step.{step}
use Rattle.rules.specs.Account.{Account, Asks, ended_at, waited_at}
use Rattle.rules.specs.Observer.{watched, watched_poll}
use Rattle.rules.specs.Run.{Line, Happened, happens, is_poll}
use Rattle.waiting.specs.Steps.{CallLine, poll_line, Moment, account, account_ended, polls_in, at_call, next, messaged_with, messaged_in, times_with}
use Rattle.waiting.specs.Demand3.{since, StillWaits, OfStep, OwnSteps, OtherSteps, AnswersAsAccount, WaitsAsAccount, NoCallLeftWaiting, MovesAsAccount, CountsOnly, KeepsTable, FromCleared, EffectOnce, times_due, messaged, Bounded, WaitingCall, LeftWaiting, Demand3}
use Rattle.waiting.proofs.Machines.{AllWords, AllCpus}
use Rattle.reached.proofs.Runs.{reached-agrees}
use Rattle.waiting.proofs.Stores.{Other}
use Rattle.waiting.proofs.Went.{Went, ask_ahead, to_come}
use Rattle.waiting.proofs.Follows.{Arrives}
use Rattle.waiting.proofs.Own.{OwnStep, poll-own, follows-waits}
use Rattle.waiting.proofs.Begin.{n, went_call, root, goes_on, n-woken, call-arrives, call-own}
use Rattle.waiting.proofs.Runs.{Along, along, other_at, other-stays}
use Rattle.waiting.proofs.Progress.{Going, due-after}
use Rattle.waiting.proofs.Messages.{Sent, InCall, in-w, Listed, listed, one_more, went-sent}
use Rattle.waiting.proofs.Bound.{ahead, OnTime, in-time}
use Rattle.waiting.proofs.Premises.{Within, within-on-time, each-limited, limits-on-time, due-by-k, due-by-limits, w-small}

module _ (c : CallLine) (met : Machine) (h : AllWords met) (q : AllCpus met) (t : LeftWaiting step c met) where
  abbrev start : Moment
  start = at_call step c met

  begins : Along met start
  begins = record { follows = arrives.follows; woken = arrives.woken; limit = arrives.limit }
    where
      arrives : Arrives met start.machine start.watch
      arrives = call-arrives c met h q t

  at : (later : List Line) → StillWaits (since step c met later) → Along met (since step c met later)
  at later n = along met later start begins n

  -- ---- steps

  poll-at : (later : List Line) (bytes : List ℕ) → StillWaits (since step c met later)
      → OwnStep c (happens step (poll_line bytes) (since step c met later).machine) (account (next step (poll_line bytes) (since step c met later)))
  unfolding next watched watched_poll
  poll-at later bytes n = poll-own (since step c met later).machine (since step c met later).watch (at later n).follows c bytes

  -- what every own step has
  own : (P : OfStep) → ((k : Happened) (a : Account) → OwnStep c k a → P k a) → OwnSteps step c met P
  own P f = (f _ _ (call-own c met h q t), (λ later bytes n. f _ _ (poll-at later bytes n)))

  other : (later : List Line) (l : Line) → is_poll l.event ≡ false → StillWaits (since step c met later)
      → Other l.event (since step c met later).machine (step l.event l.bytes (since step c met later).machine)
  other later l p n = other_at met l.bytes (since step c met later) (at later n) l.event p

  alone : OtherSteps step c met (λ k a. WaitsAsAccount k a × NoCallLeftWaiting k a)
  unfolding next
  alone later l p n =
      (ap waits (other later l p n).kept.waiting ∙ (follows-waits now.machine now.watch (at later n).follows).0 ∙ sym goes, (other later l p n).quiet)
    where
      now : Moment
      now = since step c met later

      goes : not (ended_at (account (next step l now)).place) ≡ true
      goes = ap not (ap (λ (a : Account). ended_at a.place) (other-stays l.event _ now.machine now.watch p) ∙ n)

  -- ---- counting

  abbrev a : Account
  a = account start

  began : Went (n c met h q t) a.kind a.target (ask_ahead a.kind a.target 0) 0 a
  began = went_call c met h q t

  first-due : times_with a ≡ times_due a.place
  first-due = subst (λ (x : Account). times_with x ≡ times_due x.place) (sym began.same) (sym (began.due ∙ omega arith))

  once : EffectOnce step c met
  unfolding Going
  once later = omega (arith, first-due, due-after met later start (inl begins))

  -- the call's own message: of those that it asks or tells, none is before it
  first-sent : (messaged_with a ≡ waited_at a.place ∷ [])
      × Sent (n c met h q t) a.kind a.target (to_come a.kind a.target (Asks 0)) a.place
  unfolding to_come
  first-sent = went-sent (n c met h q t) a.kind a.target (ask_ahead a.kind a.target 0) 0 a began (goes_on c met h q t)

  in-call : InCall a met start
  in-call = record { along = begins; kind = refl; target = refl }

  all_listed : (later : List Line) → Listed a met (Asks 0) (messaged step c met later)
  all_listed later =
      subst (λ (cs : List ℕ). Listed a met (Asks 0) (cs ++ messaged_in step start later)) (sym first-sent.0)
      (one_more a met (n c met h q t) (Asks 0) a.place (messaged_in step start later) (n-woken c met h q t) first-sent.1 (listed a met later start in-call))

  -- along a list with enough polls the call ends in time
  ends-in-time : (due : ℕ → ℕ) (P : ℕ → Moment → List Line → Type 0) → OnTime a met due P → (later : List Line) → 0 < due (waited_at a.place) → P 0 start later
      → due (waited_at a.place) + ahead a met due a.place ≤ polls_in later → account_ended (since step c met later) ≡ true
  ends-in-time due P o later low p enough =
      in-time a met due P o later start 0 in-call (λ k. ap (λ (x : Account). x.polls) began.same) low p (omega (arith, enough))

  bounded : (later : List Line) → Bounded step c met later
  bounded later = record {
    size = w-small a met;
    inside = (all_listed later).inside;
    once = (all_listed later).once;
    ends = λ k low within enough.
        ends-in-time (λ id. k) (Within a met k) (within-on-time a met k) later low (record { count = 0; within = within; same = λ z. refl })
        (omega (arith, enough, due-by-k a met k (n c met h q t) (Asks 0) a.place (n-woken c met h q t) first-sent.1));
    ends_by_limits = λ limited enough.
        let each = each-limited a met limited in
        ends-in-time (limit_at met) (λ spent now ls. Unit {0}) (limits-on-time a met each) later
        (each (waited_at a.place) (in-w a met (n c met h q t) a.place _ (n-woken c met h q t) first-sent.1)) tt
        (omega (arith, enough, due-by-limits a met (n c met h q t) (Asks 0) a.place (n-woken c met h q t) first-sent.1));
  }

  pub waiting-call : WaitingCall step c met
  waiting-call = record {
    root = root c met h q t;
    answers = own AnswersAsAccount (λ k a s. s.answers);
    end = (own WaitsAsAccount (λ k a s. s.end), alone);
    effect = (own (MovesAsAccount c) (λ k a s. s.effect), once);
    frame = (own KeepsTable (λ k a s. s.frame), (λ later l p n e. (other later l p n).kept.table));
    counts = own CountsOnly (λ k a s. s.counts);
    bound = bounded;
    messages = own FromCleared (λ k a s. s.messages);
  }

-- every machine that is reached has all words and all CPUs (`reached`, the invariant of the table)
pub demand-3 : Demand3 step
demand-3 system accepted before c t =
    let sound = (reached-agrees system accepted before).settled.sound in waiting-call c _ sound.comms-room sound.cpus-room t
