-- Laws of the communication region: a number and its bytes, the region's words and its bytes. Assumes nothing.
use mathlib.Core.Path.{◌≡◌, refl, sym, ap, ◌∙◌}
use mathlib.Core.Bool.{Bool, true, false, not, ◌&&◌}
use mathlib.Core.Logic.{⊎_elim}
use mathlib.Core.List.{List, [], ◌∷◌, ◌++◌, map}
use Prim.Native.Nat.{ℕ, zero, suc, ◌+◌, ◌*◌, ◌/◌, ◌%◌, ◌^◌, ◌<◌, ◌≤◌}
use native.Mathlib.Omega.{arith}
use lib.Dec.{ltb, eqb}
use lib.ListN.{length, get_or}
use lib.Seq.{get_or-take, get_or-drop}
use borrow.Author.Tests.{lt-ltb, le-ltb, ltb-true}
use Rattle.base.specs.Lists.{part}
use Rattle.base.proofs.Tests.{le-or-lt, is_true, holds, and_right}
use Rattle.cpu_set.specs.CpuSet.{count, count_below, member}
use Rattle.fields.specs.Fields.{little_endian, field, u32}
use Rattle.machine_state.specs.declared.CommRegion.{CommRegion}
use Rattle.machine_state.specs.declared.Machine.{Machine}
use Rattle.rules.specs.State.{has_id, comm_at}
use Rattle.rules.specs.CommRegion.{bytes, layout, shown_in, sees_region, region_word, region_byte}
use Rattle.std.proofs.Common.{Option, Some, None}
use Rattle.std.specs.Option.{option_map}

-- a number is what its bytes say
pub number-bytes : (size n : ℕ) → n < 256 ^ size → n ≡ little_endian (bytes size n)
unfolding little_endian bytes
number-bytes zero n h = omega arith
number-bytes (suc size) n h = rw (← number-bytes size (n / 256) (omega arith)) (omega arith)

-- the word of two fields of two bytes
pub number-halves : (a b : ℕ) → a < 256 ^ 2 → b < 256 ^ 2 → a + 0x10000 * b ≡ little_endian (bytes 2 a ++ bytes 2 b)
unfolding little_endian bytes
number-halves a b f g =
    let e = number-bytes 2 a f in
    let h = number-bytes 2 b g in
    omega arith

-- the region has 20 bytes
pub layout-length : (c : CommRegion) (timer cpus : ℕ) → length (layout c timer cpus) ≡ 20
unfolding layout bytes
layout-length c timer cpus = refl

-- the word whose bytes are known
pub word-is : (l bs : List ℕ) {word k n : ℕ} → word ≡ k → part (4 * k) 4 l ≡ bs → n ≡ little_endian bs → n ≡ u32 (4 * word) l
unfolding field
word-is l bs e p q = q ∙ sym (rw e (ap little_endian p))

-- bytes are those of the number that they say
abbrev low : List ℕ → List ℕ
low xs = map (λ x. x % 256) xs

bytes-number : (xs : List ℕ) → bytes (length xs) (little_endian (low xs)) ≡ low xs
unfolding little_endian bytes
bytes-number [] = refl
bytes-number (x ∷ xs) =
    let rest = little_endian (low xs) in
    let here : (x % 256 + 256 * rest) % 256 ≡ x % 256 = omega arith in
    let above : (x % 256 + 256 * rest) / 256 ≡ rest = omega arith in
    λ i. here i ∷ (ap (bytes (length xs)) above ∙ bytes-number xs) i

four_bytes : (x y z w : ℕ) → bytes 4 (little_endian (x % 256 ∷ y % 256 ∷ z % 256 ∷ w % 256 ∷ [])) ≡ x % 256 ∷ y % 256 ∷ z % 256 ∷ w % 256 ∷ []
four_bytes x y z w = bytes-number (x ∷ y ∷ z ∷ w ∷ [])

-- the bytes of a word of the region
word_bytes : (c : CommRegion) (timer cpus word : ℕ) → word < 5 → bytes 4 (u32 (4 * word) (layout c timer cpus)) ≡ part (4 * word) 4 (layout c timer cpus)
unfolding field layout bytes
word_bytes c timer cpus zero h = four_bytes _ _ _ _
word_bytes c timer cpus (suc zero) h = four_bytes _ _ _ _
word_bytes c timer cpus (suc (suc zero)) h = four_bytes _ _ _ _
word_bytes c timer cpus (suc (suc (suc zero))) h = four_bytes 0 0 0 0
word_bytes c timer cpus (suc (suc (suc (suc zero)))) h = four_bytes _ _ _ _
word_bytes c timer cpus (suc (suc (suc (suc (suc word))))) h = absurd (past h)
  where
    past : suc (suc (suc (suc (suc word)))) < 5 → ⊥
    past h = omega arith

-- a byte of a word, as a shift gives it
pub byte-shift : (word k : ℕ) → k < 4 → word / 2 ^ (8 * k) % 256 ≡ get_or (bytes 4 word) k 0
unfolding bytes
byte-shift word zero h = omega arith
byte-shift word (suc zero) h = refl
byte-shift word (suc (suc zero)) h = let e : word / 2 ^ 16 ≡ word / 256 / 256 = omega arith in ap (λ (n : ℕ). n % 256) e
byte-shift word (suc (suc (suc zero))) h = let e : word / 2 ^ 24 ≡ word / 256 / 256 / 256 = omega arith in ap (λ (n : ℕ). n % 256) e
byte-shift word (suc (suc (suc (suc k)))) h = absurd (past h)
  where
    past : suc (suc (suc (suc k))) < 4 → ⊥
    past h = omega arith

-- the byte at an offset is that of its word
byte_at : (c : CommRegion) (timer cpus offset : ℕ) → offset < 20
    → get_or (bytes 4 (u32 (4 * (offset / 4)) (layout c timer cpus))) (offset % 4) 0 ≡ get_or (layout c timer cpus) offset 0
byte_at c timer cpus offset h =
    let place : 4 * (offset / 4) + offset % 4 ≡ offset = omega arith in
    let within : offset % 4 < 4 = omega arith in
    rw (word_bytes c timer cpus (offset / 4) (omega arith), get_or-take, get_or-drop, place)

-- an offset is in the region where its word is
same_end : (offset : ℕ) → ltb (offset / 4) 5 ≡ ltb offset 20
same_end offset =
    ⊎_elim
    (λ (h : 20 ≤ offset). le-ltb (offset / 4) 5 (omega arith) ∙ sym (le-ltb offset 20 h))
    (λ (h : offset < 20). lt-ltb (offset / 4) 5 (omega arith) ∙ sym (lt-ltb offset 20 h))
    (le-or-lt 20 offset)

-- byte k of what `region_word` gives
abbrev pub byte_of : Option ℕ → ℕ → Option ℕ
byte_of w k = option_map (λ word. get_or (bytes 4 word) k 0) w

region-byte : (m : Machine) (id offset : ℕ) → byte_of (region_word id (offset / 4) m) (offset % 4) ≡ region_byte id offset m
unfolding region_word region_byte
region-byte m id offset =
    by-test (sees_region id m) (ltb (offset / 4) 5) (ltb offset 20) (same_end offset) (λ e. byte_at _ _ _ offset (ltb-true offset 20 e))
  where
    by-test : (s w t : Bool) → w ≡ t → (t ≡ true → get_or (bytes 4 (u32 (4 * (offset / 4)) (shown_in id m))) (offset % 4) 0 ≡ get_or (shown_in id m) offset 0)
        → byte_of (elim (s && w) as (λ x. Option ℕ) [ true ↦ Some (u32 (4 * (offset / 4)) (shown_in id m)) | false ↦ None ]) (offset % 4)
        ≡ elim (s && t) as (λ x. Option ℕ) [ true ↦ Some (get_or (shown_in id m) offset 0) | false ↦ None ]
    by-test false w t p e = refl
    by-test true false false p e = refl
    by-test true true true p e = ap Some (e refl)
    by-test true true false p e = cc
    by-test true false true p e = cc

pub byte-of-word : (m : Machine) (id offset : ℕ) (w : Option ℕ) → w ≡ region_word id (offset / 4) m → byte_of w (offset % 4) ≡ region_byte id offset m
byte-of-word m id offset w e = ap (λ (v : Option ℕ). byte_of v (offset % 4)) e ∙ region-byte m id offset

-- no cell has an ID from 16 up
pub not_seen : (m : Machine) (id : ℕ) → 16 ≤ id → sees_region id m ≡ false
unfolding sees_region has_id
not_seen m id h = rw (le-ltb id 16 h, has_id) (by-test (not (eqb id 0)))
  where
    by-test : (t : Bool) → (t && false && (comm_at m id).mapped) ≡ false
    by-test true = refl
    by-test false = refl

-- a word, by the test that the code makes
module _ (m : Machine) (id word : ℕ) (seen : Bool) (known : seen ≡ sees_region id m) where
  pub no_word : (seen && ltb word 5) ≡ false → None ≡ region_word id word m
  unfolding region_word
  no_word e = rw (← known, e, region_word)

  pub a_word : (seen && ltb word 5) ≡ true → Some (u32 (4 * word) (shown_in id m)) ≡ region_word id word m
  unfolding region_word
  a_word e = rw (← known, e, region_word)

pub in-region : (seen : Bool) (word : ℕ) → (seen && ltb word 5) ≡ true → word < 5
in-region seen word e = ltb-true word 5 (is_true (ltb word 5) (and_right seen (ltb word 5) (holds e)))

-- how many CPUs there may be
count-below : (n : ℕ) (p : ℕ → Bool) → count_below n p ≤ n
unfolding count_below
count-below zero p = omega arith
count-below (suc n) p = by-test (p n) (count-below n p)
  where
    by-test : (t : Bool) → count_below n p ≤ n → elim t as (λ x. ℕ) [ true ↦ suc (count_below n p) | false ↦ count_below n p ] ≤ suc n
    by-test true h = omega arith
    by-test false h = omega arith

pub count-64 : (a : ℕ) → count a ≤ 64
unfolding count
count-64 a = count-below 64 (λ k. member k a)
