-- The text of answers. Document 01, "Replay program": "Prints `boot N` .. then per line `code N`, `wait C`, `done` or the word above".
use Rattle.std.specs.Prelude.{true, false, List, [], ◌∷◌, ◌++◌, ℕ, zero, suc, ◌+◌, ◌/◌, ◌%◌, ltb, length, drop, ℤ, pos, negsuc}
use Rattle.machine_state.specs.declared.Answer.{Answer}
use Rattle.machine_state.specs.declared.Answer.TheVariants.{Code, Wait, Done, Off, Bad, Stopped, Held, Denied, Idle}

-- a number in decimals, without leading zeros; the first number bounds how many digits
unfoldable pub decimal_in : ℕ → ℕ → List ℕ
decimal_in zero n = []
decimal_in (suc k) n = elim (ltb n 10) [ true ↦ (0x30 + n) ∷ [] | false ↦ decimal_in k (n / 10) ++ ((0x30 + n % 10) ∷ []) ]

-- a 64-bit number has at most 20 digits
abbrev pub decimal : ℕ → List ℕ
decimal n = decimal_in 20 n

-- "the replay program prints it with sign"
unfoldable pub signed : ℤ → List ℕ
signed (pos n) = decimal n
signed (negsuc n) = 0x2d ∷ decimal (suc n)

-- what stands before a number: `boot `, `code `, `wait `
abbrev pub boot_text : List ℕ
boot_text = 0x62 ∷ 0x6f ∷ 0x6f ∷ 0x74 ∷ 0x20 ∷ []

abbrev pub code_text : List ℕ
code_text = 0x63 ∷ 0x6f ∷ 0x64 ∷ 0x65 ∷ 0x20 ∷ []

abbrev pub wait_text : List ℕ
wait_text = 0x77 ∷ 0x61 ∷ 0x69 ∷ 0x74 ∷ 0x20 ∷ []

-- the words `done`, `off`, `bad`, `stopped`, `held`, `denied`, `idle`
unfoldable pub answer_text : Answer → List ℕ
answer_text (Code code) = code_text ++ signed code
answer_text (Wait cell) = wait_text ++ decimal cell
answer_text Done = 0x64 ∷ 0x6f ∷ 0x6e ∷ 0x65 ∷ []
answer_text Off = 0x6f ∷ 0x66 ∷ 0x66 ∷ []
answer_text Bad = 0x62 ∷ 0x61 ∷ 0x64 ∷ []
answer_text Stopped = 0x73 ∷ 0x74 ∷ 0x6f ∷ 0x70 ∷ 0x70 ∷ 0x65 ∷ 0x64 ∷ []
answer_text Held = 0x68 ∷ 0x65 ∷ 0x6c ∷ 0x64 ∷ []
answer_text Denied = 0x64 ∷ 0x65 ∷ 0x6e ∷ 0x69 ∷ 0x65 ∷ 0x64 ∷ []
answer_text Idle = 0x69 ∷ 0x64 ∷ 0x6c ∷ 0x65 ∷ []

-- a line of the output
abbrev pub answer_line : Answer → List ℕ
answer_line a = answer_text a ++ (0x0a ∷ [])

abbrev pub boot_line : ℤ → List ℕ
boot_line code = boot_text ++ signed code ++ (0x0a ∷ [])

-- what a line leaves in a lent buffer: the line, then the bytes that stood there. The first number is the room that a line may need;
-- a buffer with less stays as it is
unfoldable pub put_line : ℕ → List ℕ → List ℕ → List ℕ
put_line room line out = elim (ltb (length out) room) [ true ↦ out | false ↦ line ++ drop (length line) out ]

unfoldable pub put_count : ℕ → List ℕ → List ℕ → ℕ
put_count room line out = elim (ltb (length out) room) [ true ↦ 0 | false ↦ length line ]
