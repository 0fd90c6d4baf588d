-- What keeps a call in time: K polls for each cell of W, where each shows a reply or a final state within K of them or has a limit that serves; or its limit
-- for each, where all have one. A poll that hears nothing is then not yet the last that is due (Bound). Assumes nothing.
use Rattle.std.proofs.Common.{Bool, true, false, not, ◌&&◌, ◌||◌, true≢false, ◌≡◌, refl, sym, ap, ◌∙◌, subst, List, ◌∷◌, ℕ, suc, ◌+◌, ◌*◌, ◌≤◌, ◌<◌, arith, ltb-true, leb-true, le-leb, leb, ltb, eqb}
use Rattle.std.proofs.lemmas.Bool.{and_parts, eqb-false, not-true, or_parts}
use Rattle.std.proofs.Math.Bool.{and-false}
use Rattle.base.proofs.Tests.{is_true, holds}
use Rattle.base.proofs.Lists.{up_to-elim}
use Rattle.machine_state.specs.declared.Machine.{Machine}
use Rattle.rules.specs.State.{no_id, limit_at, active}
use Rattle.rules.specs.Step.{step}
use Rattle.rules.specs.Asking.{may_be_messaged, asks, tells, is_last_poll}
use Rattle.rules.specs.Account.{Account, Place, stays_with, waited_at}
use Rattle.rules.specs.Run.{Line, is_poll}
use Rattle.waiting.specs.Steps.{Moment, account, account_ended, next, shows, waited_limit, serves, heard_within}
use Rattle.waiting.specs.Demand3.{in_w, size_of_w, all_limited, sum_of_limits, sum_below}
use Rattle.waiting.proofs.Shown.{live-lt}
use Rattle.waiting.proofs.Machines.{NoneWoken}
use Rattle.waiting.proofs.Went.{to_come}
use Rattle.waiting.proofs.Follows.{may-live}
use Rattle.waiting.proofs.Own.{follows-waits}
use Rattle.waiting.proofs.Progress.{hears, count_at}
use Rattle.waiting.proofs.Messages.{Sent, InCall}
use Rattle.waiting.proofs.Counts.{sum-le, sum_same, count_small}
use Rattle.waiting.proofs.Bound.{left, ahead, left_less, limit, limit_is, Counted, not_last, OnTime}

-- a number that is not 0
above : (n : ℕ) → not (eqb n 0) ≡ true → 1 ≤ n
above n e = let f : n ≡ 0 → ⊥ = eqb-false n 0 (not-true (eqb n 0) e) in omega arith

-- ---- the premise about replies, one event on

module _ (k : ℕ) where
  -- the poll is answered, or the limit serves
  abbrev answered_by : Moment → Bool
  answered_by now = shows now || serves k (waited_limit now)

  module _ (count : ℕ) (now : Moment) (l : Line) (ls : List Line) (e : account_ended now ≡ false) where
    rest : Bool → Bool
    rest b =
        elim b [
          | true ↦ heard_within step k 0 (next step l now) ls
          | false ↦ ltb (suc count) k && heard_within step k (suc count) (next step l now) ls
        ]

    within-passed : is_poll l.event ≡ false → heard_within step k count now (l ∷ ls) ≡ heard_within step k count (next step l now) ls
    unfolding heard_within
    within-passed p = rw (e, p, heard_within)

    within-polled : is_poll l.event ≡ true → heard_within step k count now (l ∷ ls) ≡ rest (answered_by now)
    unfolding heard_within rest
    within-polled p = rw (e, p, heard_within)

-- the account a began the call, which met the machine `met`
module _ (a : Account) (met : Machine) where
  module _ (k : ℕ) where
    -- the premise's own count is that of the polls, but where the limit serves
    pub record Within (spent : ℕ) (now : Moment) (ls : List Line) : Type 0 where
      pub count : ℕ
      pub within : heard_within step k count now ls ≡ true
      pub same : serves k (limit a met now) ≡ false → count ≡ spent

    goes_on : (now : Moment) → InCall a met now → account_ended now ≡ false
    goes_on now c = (follows-waits now.machine now.watch c.along.follows).1

    -- the same cell is waited for
    still-serves : (now after : Moment) (polls : ℕ) → account after ≡ stays_with polls (account now) → serves k (limit a met after) ≡ serves k (limit a met now)
    still-serves now after polls e = ap (λ (x : Account). serves k (limit_at met (waited_at x.place))) e

    module _ (spent : ℕ) (now : Moment) (l : Line) (ls : List Line) (c : InCall a met now) (w : Within spent now (l ∷ ls)) where
      abbrev after : Moment
      after = next step l now

      goes : account_ended now ≡ false
      goes = goes_on now c

      passed-within : is_poll l.event ≡ false → account after ≡ stays_with (account now).polls (account now) → Within spent after ls
      passed-within f e = record {
        count = w.count;
        within = sym (within-passed k w.count now l ls goes f) ∙ w.within;
        same = λ q. w.same (sym (still-serves now after (account now).polls e) ∙ q);
      }

      -- a poll that is answered, or of a cell whose limit serves
      answered-within : is_poll l.event ≡ true → answered_by k now ≡ true → heard_within step k 0 after ls ≡ true
      unfolding rest
      answered-within f b = sym (ap (rest k w.count now l ls goes) b) ∙ sym (within-polled k w.count now l ls goes f) ∙ w.within

      unanswered-within : is_poll l.event ≡ true → answered_by k now ≡ false → (ltb (suc w.count) k && heard_within step k (suc w.count) after ls) ≡ true
      unfolding rest
      unanswered-within f b = sym (ap (rest k w.count now l ls goes) b) ∙ sym (within-polled k w.count now l ls goes f) ∙ w.within

      module _ (t : Counted a met spent now) (s : spent < k) (f : is_poll l.event ≡ true) where
        waits-within : hears now ≡ false → account after ≡ stays_with (count_at now) (account now) → (suc spent < k) × Within (suc spent) after ls
        waits-within h e = go (serves k (limit a met now)) refl
          where
            shown : (b : Bool) → serves k (limit a met now) ≡ b → answered_by k now ≡ b
            shown b q = ap (λ (x : Bool). x || serves k (waited_limit now)) ((or_parts (shows now) _ h).0) ∙ ap (serves k) (limit_is a met now c) ∙ q

            go : (b : Bool) → serves k (limit a met now) ≡ b → (suc spent < k) × Within (suc spent) after ls
            go true q =
                let low : 1 ≤ limit a met now = above (limit a met now) ((and_parts (not (eqb (limit a met now) 0)) (leb (limit a met now) k) q).0) in
                let high : limit a met now ≤ k = leb-true (limit a met now) k ((and_parts (not (eqb (limit a met now) 0)) (leb (limit a met now) k) q).1) in
                let short : suc spent < limit a met now = not_last a met spent now c t h low in (
                  omega (arith, short, high),
                  record { count = 0; within = answered-within f (shown true q); same = λ z. absurd (true≢false (sym q ∙ sym (still-serves now after (count_at now) e) ∙ z)) },
                )
            go false q =
                let both = unanswered-within f (shown false q) in (
                  subst (λ (n : ℕ). suc n < k) (w.same q) (ltb-true (suc w.count) k ((and_parts (ltb (suc w.count) k) _ both).0)),
                  record { count = suc w.count; within = (and_parts (ltb (suc w.count) k) _ both).1; same = λ z. ap suc (w.same q) },
                )

        moves-within : hears now ≡ true → (0 < k) × Within 0 after ls
        unfolding is_last_poll
        moves-within h = (omega (arith, s), record { count = 0; within = answered-within f (go (shows now) (serves k (waited_limit now)) refl refl); same = λ z. refl })
          where
            -- a limit that has the cell heard at one of the first K polls is at most K
            served : shows now ≡ false → serves k (waited_limit now) ≡ true
            served e = rw (limit_is a met now c) serving
              where
                last : (not (eqb (limit a met now) 0) && leb (limit a met now) ((account now).polls + 1)) ≡ true
                last =
                    sym (ap (λ (n : ℕ). is_last_poll n (account now).polls) (limit_is a met now c)) ∙ sym (ap (λ (b : Bool). b || is_last_poll (waited_limit now) (account now).polls) e)
                    ∙ h

                some : not (eqb (limit a met now) 0) ≡ true
                some = (and_parts (not (eqb (limit a met now) 0)) _ last).0

                high : limit a met now ≤ k
                high = small (leb-true (limit a met now) _ ((and_parts (not (eqb (limit a met now) 0)) _ last).1)) (t (above (limit a met now) some))
                  where
                    small : limit a met now ≤ (account now).polls + 1 → (account now).polls ≡ spent → limit a met now ≤ k
                    small x y = omega (arith, x, y, s)

                serving : serves k (limit a met now) ≡ true
                serving = rw (some, le-leb (limit a met now) k high)

            go : (x y : Bool) → shows now ≡ x → serves k (waited_limit now) ≡ y → answered_by k now ≡ true
            go true y e q = rw e
            go false y e q = rw (e, served e)

    pub within-on-time : OnTime a met (λ id. k) Within
    within-on-time = record {
      passes = λ spent now l ls c f e w. passed-within spent now l ls c w f e;
      waits = λ spent now l ls c t s f h e w. waits-within spent now l ls c w t s f h e;
      moves-on = λ spent now l ls c t s f h i w. moves-within spent now l ls c w t s f h;
    }

  -- ---- the limits

  pub each-limited : all_limited a met ≡ true → (id : ℕ) → in_w a met id ≡ true → 1 ≤ limit_at met id
  unfolding all_limited in_w
  each-limited e id w =
      above (limit_at met id) (sym (ap (λ (b : Bool). not b || not (eqb (limit_at met id) 0)) w) ∙ is_true _ (up_to-elim test no_id (holds e) id low))
    where
      test : ℕ → Bool
      test n = not (in_w a met n) || not (eqb (limit_at met n) 0)

      low : id < no_id
      low = live-lt met id (may-live met id ((and_parts (asks a.kind a.target id || tells a.kind) (may_be_messaged met id) w).1))

  pub limits-on-time : ((id : ℕ) → in_w a met id ≡ true → 1 ≤ limit_at met id) → OnTime a met (limit_at met) (λ spent now ls. Unit {0})
  limits-on-time each = record {
    passes = λ spent now l ls c f e w. tt;
    waits = λ spent now l ls c t s f h e w. (not_last a met spent now c t h (some s), tt);
    moves-on = λ spent now l ls c t s f h i w. (each _ i, tt);
  }
    where
      some : {m n : ℕ} → m < n → 1 ≤ n
      some l = omega (arith, l)

  -- ---- what is due to W

  -- the call's own message is the first of W
  first-due : (due : ℕ → ℕ) (m : Machine) (before place : Place) → NoneWoken met m → Sent m a.kind a.target (to_come a.kind a.target before) place
      → due (waited_at place) + ahead a met due place ≤ sum_below no_id (λ id. elim (in_w a met id) [ true ↦ due id | false ↦ 0 ])
  unfolding left
  first-due due m before place w s =
      omega (arith, left_less a met due m before place w s, sum-le no_id (left a met before) (in_w a met) due (λ id e. (and_parts (in_w a met id) _ e).0))

  pub due-by-k : (k : ℕ) (m : Machine) (before place : Place) → NoneWoken met m → Sent m a.kind a.target (to_come a.kind a.target before) place
      → k + ahead a met (λ id. k) place ≤ size_of_w a met * k
  due-by-k k m before place w s = subst (λ (n : ℕ). k + ahead a met (λ id. k) place ≤ n) (sum_same no_id (in_w a met) k) (first-due (λ id. k) m before place w s)

  pub due-by-limits : (m : Machine) (before place : Place) → NoneWoken met m → Sent m a.kind a.target (to_come a.kind a.target before) place
      → limit_at met (waited_at place) + ahead a met (limit_at met) place ≤ sum_of_limits a met
  due-by-limits m before place w s = first-due (limit_at met) m before place w s

  -- "at most 15": root is not among them
  pub w-small : size_of_w a met ≤ 15
  unfolding in_w may_be_messaged active
  w-small = count_small 15 (in_w a met) (and-false (asks a.kind a.target 0 || tells a.kind))
