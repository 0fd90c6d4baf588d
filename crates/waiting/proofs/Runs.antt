-- Along a list of events: as long as the account has not ended the machine follows it, and no cell has woken since the call. An account that has
-- ended stays ended, so that it goes on before every moment at which it still does. Assumes nothing.
use Rattle.std.proofs.Common.{Bool, true, false, ◌&&◌, true≢false, ◌≡◌, refl, sym, ap, ◌∙◌, subst, List, [], ◌∷◌, ℕ, eqb}
use Rattle.std.proofs.lemmas.Bool.{false≢true}
use Rattle.base.proofs.Tests.{is_true, is_false}
use Rattle.machine_state.specs.declared.Event.{Event}
use Rattle.machine_state.specs.declared.Event.TheVariants.{Call, Store, Fault, Exit, Poll, Malformed}
use Rattle.machine_state.specs.declared.Answer.{Answer}
use Rattle.machine_state.specs.declared.Machine.{Machine}
use Rattle.rules.specs.State.{cpu_at, limit_at}
use Rattle.rules.specs.Step.{step}
use Rattle.rules.specs.Account.{Account, Place, Asks, Tells, Ended, stays, polled_at, polled, ended_at, waited_at}
use Rattle.rules.specs.Observer.{Watched, watched_poll, watched_other, watched_store, watched, shown_by, is_done}
use Rattle.rules.specs.Run.{Line, happens, is_poll}
use Rattle.waiting.specs.Steps.{Moment, account, account_ended, next, moment_after}
use Rattle.waiting.proofs.Machines.{NoneWoken, woken-trans}
use Rattle.waiting.proofs.Stores.{Other}
use Rattle.waiting.proofs.Others.{step_other}
use Rattle.waiting.proofs.Follows.{Follows, Left, other-follows}
use Rattle.waiting.proofs.Own.{follows-waits, poll-leaves}

-- the machine follows the account, no cell has woken since the machine `met`, and the cell waited for has the limit that it had there
pub record Along (met : Machine) (now : Moment) : Type 0 where
  pub follows : Follows now.machine now.watch
  pub woken : NoneWoken met now.machine
  pub limit : limit_at now.machine (waited_at (account now).place) ≡ limit_at met (waited_at (account now).place)

-- ---- one event

-- an event that is no poll leaves the account where it is
pub other-stays : (e : Event) (answer : Answer) (m : Machine) (w : Watched) → is_poll e ≡ false → (watched e answer m w).account ≡ stays w.account
unfolding watched watched_store
other-stays (Call cpu code a1 a2) answer m w p = refl
other-stays (Store cpu word value) answer m w p = go (is_done answer && eqb word 1 && eqb (cpu_at m cpu).cell (waited_at w.account.place))
  where
    seen : Bool → Watched
    seen b = elim b [ true ↦ watched_other value w | false ↦ watched_other w.reply w ]

    go : (b : Bool) → (seen b).account ≡ stays w.account
    go true = refl
    go false = refl
other-stays (Fault cpu) answer m w p = refl
other-stays (Exit cpu kind) answer m w p = refl
other-stays Poll answer m w p = absurd (true≢false p)
other-stays Malformed answer m w p = refl

pub is-poll : (e : Event) → is_poll e ≡ true → e ≡ Poll
is-poll (Call cpu code a1 a2) p = absurd (false≢true p)
is-poll (Store cpu word value) p = absurd (false≢true p)
is-poll (Fault cpu) p = absurd (false≢true p)
is-poll (Exit cpu kind) p = absurd (false≢true p)
is-poll Poll p = refl
is-poll Malformed p = absurd (false≢true p)

-- the moment after an event
abbrev pub moment_of : Event → List ℕ → Moment → Moment
moment_of e bytes now = next step (record { event = e; bytes = bytes }) now

module _ (met : Machine) (bytes : List ℕ) (now : Moment) (f : Along met now) where
  poll-along : account_ended (moment_of Poll bytes now) ≡ false → Along met (moment_of Poll bytes now)
  unfolding next watched watched_poll
  poll-along n = record {
    follows = left.follows;
    woken = woken-trans met now.machine _ f.woken left.woken;
    limit = left.limit met f.woken f.limit;
  }
    where
      left : Left now.machine (step Poll bytes now.machine).machine (waited_at (account now).place) (watched_poll now.watch now.machine)
      left = poll-leaves now.machine now.watch f.follows bytes n

  pub other_at : (e : Event) → is_poll e ≡ false → Other e now.machine (step e bytes now.machine)
  other_at e p = step_other now.machine bytes (follows-waits now.machine now.watch f.follows).0 e p

  other-along : (e : Event) → is_poll e ≡ false → Along met (moment_of e bytes now)
  unfolding next
  other-along e p = record {
    follows = other-follows e now.machine now.watch (step e bytes now.machine) f.follows (other_at e p);
    woken = woken-trans met now.machine _ f.woken (other_at e p).kept.woken;
    limit =
        ap (λ (a : Account). limit_at after (waited_at a.place)) stays-there ∙ (other_at e p).kept.limits (waited_at (account now).place) ∙ f.limit
        ∙ sym (ap (λ (a : Account). limit_at met (waited_at a.place)) stays-there);
  }
    where
      after : Machine
      after = (step e bytes now.machine).machine

      stays-there : account (moment_of e bytes now) ≡ stays (account now)
      stays-there = other-stays e _ now.machine now.watch p

  event-along : (e : Event) → account_ended (moment_of e bytes now) ≡ false → Along met (moment_of e bytes now)
  event-along e n = go (is_poll e) refl
    where
      go : (b : Bool) → is_poll e ≡ b → Along met (moment_of e bytes now)
      go true p =
          subst (λ (x : Event). Along met (moment_of x bytes now)) (sym (is-poll e p))
          (poll-along (ap (λ (x : Event). account_ended (moment_of x bytes now)) (sym (is-poll e p)) ∙ n))
      go false p = other-along e p

pub next-along : (met : Machine) (l : Line) (now : Moment) → Along met now → account_ended (next step l now) ≡ false → Along met (next step l now)
next-along met l now f n = event-along met l.bytes now f l.event n

-- ---- lists

ended-poll : (a : Account) (reply : ℕ) (m : Machine) → ended_at a.place ≡ true → polled a reply (shown_by m) ≡ stays a
unfolding polled polled_at ended_at
ended-poll a reply m e = go a.place e
  where
    go : (place : Place) → ended_at place ≡ true → polled_at place a reply (shown_by m) ≡ stays a
    go (Asks c) t = absurd (false≢true t)
    go (Tells c) t = absurd (false≢true t)
    go (Ended code) t = refl

-- an account that has ended stays as it is
pub ended-stays : (l : Line) (now : Moment) → account_ended now ≡ true → account (next step l now) ≡ stays (account now)
unfolding next watched watched_poll
ended-stays l now t = go (is_poll l.event) refl
  where
    w : Watched
    w = now.watch

    answer : Answer
    answer = (happens step l now.machine).answer

    go : (b : Bool) → is_poll l.event ≡ b → (watched l.event answer now.machine w).account ≡ stays w.account
    go true p =
        ap (λ (x : Event). (watched x answer now.machine w).account) (is-poll l.event p) ∙ ended-poll w.account w.reply now.machine t
    go false p = other-stays l.event answer now.machine w p

pub ended-next : (l : Line) (now : Moment) → account_ended now ≡ true → account_ended (next step l now) ≡ true
ended-next l now e = ap (λ (a : Account). ended_at a.place) (ended-stays l now e) ∙ e

pub ended-after : (ls : List Line) (now : Moment) → account_ended now ≡ true → account_ended (moment_after step now ls) ≡ true
unfolding moment_after
ended-after [] now e = e
ended-after (l ∷ ls) now e = ended-after ls (next step l now) (ended-next l now e)

-- an account that goes on after a list went on before it
pub before-goes-on : (ls : List Line) (now : Moment) → account_ended (moment_after step now ls) ≡ false → account_ended now ≡ false
before-goes-on ls now n = is_false (account_ended now) (λ t. true≢false (sym (ended-after ls now (is_true (account_ended now) t)) ∙ n))

pub along : (met : Machine) (ls : List Line) (now : Moment) → Along met now → account_ended (moment_after step now ls) ≡ false → Along met (moment_after step now ls)
unfolding moment_after
along met [] now f n = f
along met (l ∷ ls) now f n = along met ls (next step l now) (next-along met l now f (before-goes-on ls (next step l now) n)) n
