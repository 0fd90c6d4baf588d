-- The bound. Every message leaves one cell of W less to come. With a number of polls due to each cell, they are spent after the sum of those numbers:
-- that is for every premise that keeps them due. Assumes nothing.
use Rattle.std.proofs.Common.{Bool, true, false, not, ◌&&◌, ◌≡◌, sym, ap, ap₂, ◌∙◌, subst, List, [], ◌∷◌, ℕ, suc, ◌+◌, ◌≤◌, ◌<◌, arith, leb-false, ne_eqb, leb}
use Rattle.std.proofs.lemmas.Bool.{and_parts, or_parts}
use Rattle.std.proofs.Math.Bool.{and-false}
use Rattle.machine_state.specs.declared.Machine.{Machine}
use Rattle.rules.specs.State.{no_id, limit_at}
use Rattle.rules.specs.Step.{step}
use Rattle.rules.specs.Asking.{is_last_poll, polls_after}
use Rattle.rules.specs.Account.{Account, Place, Asks, Tells, Ended, stays, stays_with, waited_at}
use Rattle.rules.specs.Run.{Line, is_poll}
use Rattle.waiting.specs.Steps.{Moment, account, account_ended, next, moment_after, shows, waited_limit, polls_in}
use Rattle.waiting.specs.Demand3.{in_w, sum_below}
use Rattle.waiting.proofs.Shown.{limit-shown, live-lt}
use Rattle.waiting.proofs.Machines.{NoneWoken}
use Rattle.waiting.proofs.Moves.{Heeds, AtPlace}
use Rattle.waiting.proofs.Went.{to_come}
use Rattle.waiting.proofs.Follows.{may-live}
use Rattle.waiting.proofs.Runs.{ended-after}
use Rattle.waiting.proofs.Progress.{hears, count_at}
use Rattle.waiting.proofs.Messages.{Sent, InCall, Does, nothing, polls, ends, moves, does, in-w}
use Rattle.waiting.proofs.Counts.{worth, sum_less}

-- ---- the polls, one event on

module _ (l : Line) (ls : List Line) where
  polls-passed : is_poll l.event ≡ false → polls_in (l ∷ ls) ≡ polls_in ls
  unfolding polls_in
  polls-passed p = rw (p, polls_in)

  polls-more : is_poll l.event ≡ true → polls_in (l ∷ ls) ≡ suc (polls_in ls)
  unfolding polls_in
  polls-more p = rw (p, polls_in)

-- the cell waited for
abbrev pub waited : Moment → ℕ
waited now = waited_at (account now).place

-- the account a began the call, which met the machine `met`
module _ (a : Account) (met : Machine) where
  -- the cells of W that are still to come at a place, and how many polls are due to them
  unfoldable pub left : Place → ℕ → Bool
  left place id = in_w a met id && to_come a.kind a.target place id

  abbrev pub ahead : (ℕ → ℕ) → Place → ℕ
  ahead due place = sum_below no_id (worth (left place) due)

  -- a message leaves one less
  pub left_less : (due : ℕ → ℕ) (m : Machine) (before place : Place) → NoneWoken met m → Sent m a.kind a.target (to_come a.kind a.target before) place
      → due (waited_at place) + ahead due place ≤ ahead due before
  unfolding left
  left_less due m before place w s =
      sum_less no_id (left place) (left before) due (waited_at place)
      (λ id e. ap₂ (λ (x y : Bool). x && y) ((and_parts (in_w a met id) _ e).0) (s.rest id ((and_parts (in_w a met id) _ e).1)))
      (live-lt m (waited_at place) (may-live m (waited_at place) s.may))
      (ap₂ (λ (x y : Bool). x && y) (in-w a met m place _ w s) s.came)
      (ap (λ (b : Bool). in_w a met (waited_at place) && b) s.out ∙ and-false (in_w a met (waited_at place)))

  -- ---- the limit, and the count of polls

  -- the limit of the cell waited for
  abbrev pub limit : Moment → ℕ
  limit now = limit_at met (waited now)

  heeds-here : (m : Machine) (target : ℕ) (place : Place) (reply : ℕ) → AtPlace m target place reply → Heeds m (waited_at place) reply
  unfolding AtPlace waited_at
  heeds-here m target (Asks c) reply w = w
  heeds-here m target (Tells c) reply w = w.0
  heeds-here m target (Ended code) reply w = absurd w

  -- it is shown as it was where the call began
  pub limit_is : (now : Moment) → InCall a met now → waited_limit now ≡ limit now
  limit_is now c = limit-shown now.machine (waited now) here.low here.alive ∙ c.along.limit
    where
      here : Heeds now.machine (waited now) now.watch.reply
      here = heeds-here now.machine (account now).target (account now).place now.watch.reply c.along.follows.place

  -- `spent` polls since the message have found nothing: that is the count, where there is a limit
  abbrev pub Counted : ℕ → Moment → Type 0
  Counted spent now = 1 ≤ limit now → (account now).polls ≡ spent

  same_count : (spent : ℕ) (now after : Moment) → account after ≡ stays (account now) → Counted spent now → Counted spent after
  same_count spent now after e k low =
      ap (λ (x : Account). x.polls) e ∙ k (subst (λ (x : Account). 1 ≤ limit_at met (waited_at x.place)) e low)

  more-counted : (spent : ℕ) (now after : Moment) → InCall a met now → account after ≡ stays_with (count_at now) (account now) → Counted spent now
      → Counted (suc spent) after
  unfolding polls_after
  more-counted spent now after c e k low =
      ap (λ (x : Account). x.polls) e ∙ ap (λ (n : ℕ). polls_after n (account now).polls) (limit_is now c)
      ∙ ap (λ (b : Bool). elim b [ true ↦ (account now).polls | false ↦ (account now).polls + 1 ]) (ne_eqb (limit now) 0 (λ q. omega (arith, here, q)))
      ∙ ap (λ (n : ℕ). n + 1) (k here) ∙ omega arith
    where
      here : 1 ≤ limit now
      here = subst (λ (x : Account). 1 ≤ limit_at met (waited_at x.place)) e low

  -- the poll that hears nothing is not the limit's: at most as many polls as the limit has
  pub not_last : (spent : ℕ) (now : Moment) → InCall a met now → Counted spent now → hears now ≡ false → 1 ≤ limit now → suc spent < limit now
  unfolding is_last_poll
  not_last spent now c k f low = past (leb-false (limit now) ((account now).polls + 1) no_last) (k low)
    where
      past : (account now).polls + 1 < limit now → (account now).polls ≡ spent → suc spent < limit now
      past x y = omega (arith, x, y)

      last : is_last_poll (limit now) (account now).polls ≡ false
      last = ap (λ (n : ℕ). is_last_poll n (account now).polls) (sym (limit_is now c)) ∙ (or_parts (shows now) _ f).1

      no_last : leb (limit now) ((account now).polls + 1) ≡ false
      no_last = sym (ap (λ (b : Bool). not b && leb (limit now) ((account now).polls + 1)) (ne_eqb (limit now) 0 (λ q. omega (arith, low, q)))) ∙ last

  -- ---- in time

  -- what a premise P, with `spent` polls since the message, gives with each event of a list, where `due` polls are due to a cell
  pub record OnTime (due : ℕ → ℕ) (P : ℕ → Moment → List Line → Type 0) : Type 0 where
    pub passes : (spent : ℕ) (now : Moment) (l : Line) (ls : List Line) → InCall a met now → is_poll l.event ≡ false
        → account (next step l now) ≡ stays (account now) → P spent now (l ∷ ls) → P spent (next step l now) ls
    pub waits : (spent : ℕ) (now : Moment) (l : Line) (ls : List Line) → InCall a met now → Counted spent now → spent < due (waited now)
        → is_poll l.event ≡ true → hears now ≡ false → account (next step l now) ≡ stays_with (count_at now) (account now) → P spent now (l ∷ ls)
        → (suc spent < due (waited now)) × P (suc spent) (next step l now) ls
    pub moves-on : (spent : ℕ) (now : Moment) (l : Line) (ls : List Line) → InCall a met now → Counted spent now → spent < due (waited now)
        → is_poll l.event ≡ true → hears now ≡ true → in_w a met (waited (next step l now)) ≡ true → P spent now (l ∷ ls)
        → (0 < due (waited (next step l now))) × P 0 (next step l now) ls

  pub in-time : (due : ℕ → ℕ) (P : ℕ → Moment → List Line → Type 0) → OnTime due P → (ls : List Line) (now : Moment) (spent : ℕ) → InCall a met now
      → Counted spent now → spent < due (waited now) → P spent now ls → due (waited now) + ahead due (account now).place ≤ polls_in ls + spent
      → account_ended (moment_after step now ls) ≡ true
  unfolding polls_in moment_after
  in-time due P o [] now spent c k s p q = absurd (omega arith)
  in-time due P o (l ∷ ls) now spent c k s p q = go (does a met now l c) (in-time due P o ls (next step l now))
    where
      b : Account
      b = account (next step l now)

      Rec : Type 0
      Rec =
          (spent : ℕ) → InCall a met (next step l now) → Counted spent (next step l now) → spent < due (waited_at b.place) → P spent (next step l now) ls
          → due (waited_at b.place) + ahead due b.place ≤ polls_in ls + spent → account_ended (moment_after step (next step l now) ls) ≡ true

      -- the account stays where it is, and with it what is due
      dues : Account → ℕ
      dues x = due (waited_at x.place) + ahead due x.place

      go : Does a met now l → Rec → account_ended (moment_after step (next step l now) ls) ≡ true
      go (nothing f e i) r =
          r spent i (same_count spent now (next step l now) e k) (subst (λ (x : Account). spent < due (waited_at x.place)) (sym e) s)
          (o.passes spent now l ls c f e p)
          (subst (λ (x : Account). dues x ≤ polls_in ls + spent) (sym e) (omega (arith, q, polls-passed l ls f)))
      go (polls f h e i) r =
          let on = o.waits spent now l ls c k s f h e p in
          r (suc spent) i (more-counted spent now (next step l now) c e k) (subst (λ (x : Account). suc spent < due (waited_at x.place)) (sym e) on.0) on.1
          (subst (λ (x : Account). dues x ≤ polls_in ls + suc spent) (sym e) (omega (arith, q, polls-more l ls f)))
      go (ends f h n e) r = ended-after ls (next step l now) e
      go (moves f h i z n t) r =
          let on = o.moves-on spent now l ls c k s f h (in-w a met now.machine b.place _ c.along.woken t) p in
          r 0 i (λ low. z) on.0 on.1
          (omega (arith, q, s, polls-more l ls f, left_less due now.machine (account now).place b.place c.along.woken t))
