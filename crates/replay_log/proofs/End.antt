-- The end of a log: a last line without its line feed is answered as one that a line feed follows. Assumes nothing.
use mathlib.Core.Path.{◌≡◌, refl, sym, ap, subst, ◌∙◌}
use mathlib.Core.Bool.{Bool, true, false, ◌&&◌}
use mathlib.Core.Logic.{⊎_elim}
use mathlib.Core.List.{List, [], ◌∷◌, ◌++◌}
use Prim.Native.Nat.{ℕ, ◌-◌, ◌≤◌, ◌<◌}
use native.Mathlib.Omega.{arith}
use borrow.Author.Tests.{leb-false, lt-ltb, le-ltb}
use lib.Dec.{ltb, leb}
use lib.ListN.{length, take, drop, take-append-drop}
use lib.Seq.{length-take-le}
use Rattle.base.proofs.Tests.{le-or-lt}
use Rattle.texts.specs.Texts.{put_line, put_count}
use Rattle.replay_log.specs.declared.Replay.{Replay}
use Rattle.replay_log.specs.declared.Ran.{Ran}
use Rattle.replay_log.specs.Replay.{line_feed}
use Rattle.replay_log.specs.Feed.{Going, feed, feed_byte, end_of, text_at_end, going_of}
use Rattle.replay_log.specs.Run.{Runs}

-- a line feed makes of a line that has begun what the end of the log makes of it
fed-end : (g : Going) → 0 < length g.begun → feed (line_feed ∷ []) g ≡ end_of g.begun g
unfolding feed feed_byte end_of
fed-end g some = go g.begun some
  where
    go : (begun : List ℕ) → 0 < length begun → feed (line_feed ∷ []) g ≡ end_of begun g
    go [] h = absurd (omega arith)
    go (b ∷ bs) h = refl

-- a text at the start of a buffer that has room for a line, and where there is none
put-there : (text out after : List ℕ) (n : ℕ) → 32 ≤ length out → text ≡ take n after → drop n after ≡ drop n out → n ≤ length after
    → (n ≡ put_count 32 text out) × (after ≡ put_line 32 text out)
unfolding put_count put_line
put-there text out after n room e rest fits =
    let size : n ≡ length text = sym (length-take-le n after fits) ∙ sym (ap length e) in (
      size ∙ sym (ap (λ (b : Bool). elim b as (λ x. ℕ) [ true ↦ 0 | false ↦ length text ]) (le-ltb (length out) 32 room)),
      sym (take-append-drop n after) ∙ ap (λ (xs : List ℕ). xs ++ drop n after) (sym e) ∙ ap (λ (xs : List ℕ). text ++ xs) (rest ∙ ap (λ (k : ℕ). drop k out) size)
          ∙ sym (ap (λ (b : Bool). elim b as (λ x. List ℕ) [ true ↦ out | false ↦ text ++ drop (length text) out ]) (le-ltb (length out) 32 room)),
    )

pub put-nowhere : (text out : List ℕ) → length out < 32 → (0 ≡ put_count 32 text out) × (out ≡ put_line 32 text out)
unfolding put_count put_line
put-nowhere text out h = (
  sym (ap (λ (b : Bool). elim b as (λ x. ℕ) [ true ↦ 0 | false ↦ length text ]) (lt-ltb (length out) 32 h)),
  sym (ap (λ (b : Bool). elim b as (λ x. List ℕ) [ true ↦ out | false ↦ text ++ drop (length text) out ]) (lt-ltb (length out) 32 h)),
)

-- a run over one line feed, with room for a line, takes it
module _ (kept : Replay) (out after : List ℕ) (r : Ran) (runs : Runs kept (line_feed ∷ []) out r after) (same : length after ≡ length out) (room : 32 ≤ length out) where
  fits : r.written ≤ length after
  fits = subst (λ (n : ℕ). r.written ≤ n) (sym same) runs.written

  untaken : r.taken ≡ 0 → ⊥
  unfolding feed going_of
  untaken none =
      let text = ap (λ (g : Going). length g.text) (ap (λ (k : ℕ). feed (take k (line_feed ∷ [])) (going_of kept [])) (sym none) ∙ runs.fed) in
      let nothing : 0 ≡ r.written = text ∙ length-take-le r.written after fits in
      let stops = ap (λ (k : ℕ). ltb k 1 && leb 32 (length out - r.written)) (sym none) ∙ runs.stops in
      let short : length out - r.written < 32 = leb-false 32 (length out - r.written) stops in
      omega (arith, nothing, short, room)

  taken : r.taken ≡ 1
  taken = ⊎_elim (λ h. few r.taken runs.taken h) (λ h. absurd (untaken (none r.taken h))) (le-or-lt 1 r.taken)
    where
      few : (k : ℕ) → k ≤ 1 → 1 ≤ k → k ≡ 1
      few k a b = omega arith

      none : (k : ℕ) → k < 1 → k ≡ 0
      none k h = omega arith

  pub end-written : 0 < length (going_of kept []).begun
      → (r.written ≡ put_count 32 (text_at_end (going_of kept [])) out) × (after ≡ put_line 32 (text_at_end (going_of kept [])) out)
  unfolding going_of
  end-written some = put-there (text_at_end (going_of kept [])) out after r.written room text runs.rest fits
    where
      text : text_at_end (going_of kept []) ≡ take r.written after
      text =
          ap (λ (g : Going). g.text)
          (sym (fed-end (going_of kept []) some) ∙ ap (λ (k : ℕ). feed (take k (line_feed ∷ [])) (going_of kept [])) (sym taken) ∙ runs.fed)
