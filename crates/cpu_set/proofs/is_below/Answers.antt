-- `a >> n` has the members from n up, moved down by n, so it is 0 where there is none. Assumes nothing.
use mathlib.Core.Path.{◌≡◌, sym, ap, ◌∙◌}
use Prim.Native.Nat.{ℕ, ◌+◌, ◌-◌, ◌/◌, ◌^◌, ◌≤◌, ◌<◌}
use native.Mathlib.Nat.{lt_of_not-le, lt_of_le_of_lt}
use native.Mathlib.Omega.{arith}
use lib.Dec.{T, T_not, not_T, eqb, ltb, lt→ltb, ltb→lt}
use lib.Pow.{shr_le}
use Rattle.base.proofs.Tests.{equal-tests}
use Rattle.base.proofs.Lists.{up_to-intro, up_to-elim}
use Rattle.cpu_set.specs.CpuSet.{member, is_empty, below}
use Rattle.base.proofs.Tests.{implies-intro, implies-elim}
use Rattle.cpu_set.proofs.Laws.{zero-is_empty, member-lt, member-shr, shr_high}
use Rattle.cpu_set.proofs.is_below.Goals as goal

shifted : (a n : ℕ) → a < 2 ^ 64 → eqb (a / 2 ^ n) 0 ≡ below a n
unfolding is_empty below
shifted a n h =
    zero-is_empty (a / 2 ^ n) (lt_of_le_of_lt (shr_le a n) h)
    ∙ equal-tests (is_empty (a / 2 ^ n)) (below a n)
    (λ t. up_to-intro _ 64 (λ k l. implies-intro (member k a) (ltb k n) (λ m. lt→ltb k n (lt_of_not-le (none-up t k l m)))))
    (λ t. up_to-intro _ 64 (λ k l. not_T (member k (a / 2 ^ n)) (λ m. none-shifted t k (rw (member-shr k a n h) at m))))
  where
    none-up : T (is_empty (a / 2 ^ n)) → (k : ℕ) → k < 64 → T (member k a) → n ≤ k → ⊥
    none-up t k l m g =
        let e : n + (k - n) ≡ k = omega arith in
        T_not (member (k - n) (a / 2 ^ n)) (up_to-elim _ 64 t (k - n) (omega arith)) (rw (member-shr (k - n) a n h, e) m)

    none-shifted : T (below a n) → (k : ℕ) → T (member (n + k) a) → ⊥
    none-shifted t k m =
        omega (arith, ltb→lt (n + k) n (implies-elim (member (n + k) a) (ltb (n + k) n) (up_to-elim _ 64 t (n + k) (member-lt (n + k) a m)) m))

pub returns-then-n-ge64 : goal.returns-then-n-ge64
returns-then-n-ge64 c =
    let a = c.args.a in
    let n = c.args.n in
    let h = c.ranges.a.fits in
    sym (ap (λ (m : ℕ). eqb m 0) (shr_high n a h (omega arith))) ∙ shifted a n h

pub returns : goal.returns
returns c = shifted c.args.a c.args.n c.ranges.a.fits
