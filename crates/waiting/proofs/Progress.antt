-- What an event does to the account of a call that goes on: it stays where it is, or, at a poll at which the cell waited for is heard, it goes on to
-- a cell that was still to come, or to its end. The effect comes with one move alone. Assumes nothing.
use Rattle.std.proofs.Common.{Bool, true, false, ◌||◌, ◌≡◌, refl, sym, ap, ◌∙◌, subst, ◌⊎◌, inl, inr, List, [], ◌∷◌, ℕ, ◌+◌, arith}
use Rattle.machine_state.specs.declared.Event.{Event}
use Rattle.machine_state.specs.declared.Machine.{Machine}
use Rattle.rules.specs.Step.{step}
use Rattle.rules.specs.Asking.{is_last_poll, polls_after}
use Rattle.rules.specs.Account.{Account, cutting, stays, stays_with, polled}
use Rattle.rules.specs.Observer.{Watched, watched_poll, watched, shown_by}
use Rattle.rules.specs.Run.{Line, happens, is_poll}
use Rattle.waiting.specs.Steps.{Moment, account, account_ended, next, moment_after, shows, waited_limit, times_with, times_in}
use Rattle.waiting.specs.Demand3.{times_due}
use Rattle.waiting.proofs.Went.{Heard, Polled, to_come, poll-went}
use Rattle.waiting.proofs.Runs.{Along, next-along, other-stays, ended-stays, ended-next, is-poll}

-- a poll hears the cell waited for: it shows a reply or a final state, or its limit has it heard
abbrev pub hears : Moment → Bool
hears now = shows now || is_last_poll (waited_limit now) (account now).polls

-- the count after a poll that hears nothing
abbrev pub count_at : Moment → ℕ
count_at now = polls_after (waited_limit now) (account now).polls

-- what an event l does at the moment `now`
pub data Progress (now : Moment) (l : Line) : Type 0 where
  passed : is_poll l.event ≡ false → account (next step l now) ≡ stays (account now) → Progress now l
  unheard : is_poll l.event ≡ true → hears now ≡ false → account (next step l now) ≡ stays_with (count_at now) (account now) → Progress now l
  heard :
      is_poll l.event ≡ true → hears now ≡ true
      → Heard now.machine (account now).kind (account now).target (to_come (account now).kind (account now).target (account now).place)
      (times_due (account now).place) (account (next step l now))
      → Progress now l

polled-next : (now : Moment) (l : Line) → is_poll l.event ≡ true
    → account (next step l now) ≡ polled (account now) now.watch.reply (shown_by now.machine)
unfolding next watched watched_poll
polled-next now l p =
    ap (λ (e : Event). (watched e (happens step l now.machine).answer now.machine now.watch).account) (is-poll l.event p)

pub progress : (met : Machine) (now : Moment) (l : Line) → Along met now → Progress now l
unfolding Polled next
progress met now l f = go (is_poll l.event) refl
  where
    w : Watched
    w = now.watch

    a : Account
    a = w.account

    by-poll : is_poll l.event ≡ true
        → Polled now.machine a.kind a.target a.place w.reply a (polled a w.reply (shown_by now.machine)) → Progress now l
    by-poll p (inl h) = unheard p h.0 (polled-next now l p ∙ h.1)
    by-poll p (inr h) =
        heard p h.0
        (subst (Heard now.machine a.kind a.target (to_come a.kind a.target a.place) (times_due a.place)) (sym (polled-next now l p)) h.1)

    go : (b : Bool) → is_poll l.event ≡ b → Progress now l
    go true p = by-poll p (poll-went now.machine a w.reply f.follows.all_words f.follows.place f.follows.kind)
    go false p = passed p (other-stays l.event _ now.machine w p)

-- ---- the effect, once

-- the call goes on, or it has ended
unfoldable pub Going : Machine → Moment → Type 0
Going met now = Along met now ⊎ (account_ended now ≡ true)

pub next-going : (met : Machine) (now : Moment) (l : Line) → Going met now → Going met (next step l now)
unfolding Going
next-going met now l (inl f) = go (account_ended (next step l now)) refl
  where
    go : (b : Bool) → account_ended (next step l now) ≡ b → Going met (next step l now)
    go true e = inr e
    go false e = inl (next-along met l now f e)
next-going met now l (inr e) = inr (ended-next l now e)

-- the effect is counted with the event with which it comes
due-next : (met : Machine) (now : Moment) (l : Line) → Going met now
    → times_due (account now).place + times_with (account (next step l now)) ≡ times_due (account (next step l now)).place
unfolding times_with Going
due-next met now l f = by-going f
  where
    stayed : (polls : ℕ) → account (next step l now) ≡ stays_with polls (account now)
        → times_due (account now).place + times_with (account (next step l now)) ≡ times_due (account (next step l now)).place
    stayed polls e = rw e (omega arith)

    go : Progress now l → times_due (account now).place + times_with (account (next step l now)) ≡ times_due (account (next step l now)).place
    go (passed p e) = stayed (account now).polls e
    go (unheard p h e) = stayed (count_at now) e
    go (heard p h g) = rw (g.same ∙ ap (cutting g.cut) g.went.same) (sym g.went.due)

    by-going : Going met now → times_due (account now).place + times_with (account (next step l now)) ≡ times_due (account (next step l now)).place
    by-going (inl f) = go (progress met now l f)
    by-going (inr e) = stayed (account now).polls (ended-stays l now e)

pub due-after : (met : Machine) (ls : List Line) (now : Moment) → Going met now
    → times_due (account now).place + times_in step now ls ≡ times_due (account (moment_after step now ls)).place
unfolding times_in moment_after
due-after met [] now f = omega arith
due-after met (l ∷ ls) now f =
    omega (arith, due-next met now l f, due-after met ls (next step l now) (next-going met now l f))
