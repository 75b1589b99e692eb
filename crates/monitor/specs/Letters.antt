-- A letter's numbers and a tick's: whether the letter is met, and what it writes (docs/REFERENCE.md, F3, F6, F20 and F21). Over any numbers; nothing here is trusted to be
-- within its list. Assumes nothing.
use Rattle.std.specs.Prelude.{Bool, cond, ◌&&◌, ◌||◌, List, [], ℕ, ◌+◌, ◌*◌, ◌/◌, ◌%◌, ◌^◌, eqb, get_or, set}
use Rattle.std.specs.Int.Bits.{bit_and}
use Rattle.masks.specs.Wires.{passes}
use Rattle.words.specs.Words.{part0, part1, part2, part3}

-- What a tick is judged by: the rows, each in one word; the letters' links and their numbers; for each letter the wires that it looks at, 256 places on the values that
-- it wants, 512 on the wires that must be as before and 768 on, in part 0, the row of the thread that it goes on in; at 768 also how many letters there are up to the last
-- that writes (part 1), up to the last that goes on in a thread (part 2) and before the first that does (part 3); the store values before the tick, its word and the one before it.
pub record Given : Type 0 where
  pub table : List ℕ
  pub links : List ℕ
  pub numbers : List ℕ
  pub letters : List ℕ
  pub values : List ℕ
  pub word : ℕ
  pub before : ℕ

-- from four tables, in this order, and two words, the tick's own first
abbrev pub given : (tables : List (List ℕ)) → (values words : List ℕ) → Given
given t v ws = record { table = get_or t 0 []; links = get_or t 1 []; numbers = get_or t 2 []; letters = get_or t 3 []; values = v; word = get_or ws 0 0; before = get_or ws 1 0 }

-- A link's value: its number (part 1 is 2), or the wires from part 2 on that its number masks (N4), F20: "in word t".
abbrev pub link_value : (link number word : ℕ) → ℕ
link_value x v w = cond (eqb (part1 x) 2) v (bit_and (w / 2 ^ (part2 x % 64)) v)

-- F3: a store test; there is none, or the store has the link's value
abbrev pub test_met : Given → (slot : ℕ) → Bool
test_met g i = eqb (get_or g.links i 0) 0 || eqb (get_or g.values (part0 (get_or g.links i 0)) 0) (link_value (get_or g.links i 0) (get_or g.numbers i 0) g.word)

-- the wires looked at have the values wanted
abbrev pub wires_met : Given → (letter : ℕ) → Bool
wires_met g l = passes (get_or g.letters l 0) (get_or g.letters (256 + l) 0) g.word

-- and those that must be as before have the values of the word before
abbrev pub past_met : Given → (letter : ℕ) → Bool
past_met g l = passes (get_or g.letters (512 + l) 0) g.before g.word

-- F6: "all its literals hold at t": those of wires, those of the word before, and both store tests
unfoldable pub letter_met : Given → (letter : ℕ) → Bool
letter_met g l = wires_met g l && (past_met g l && (test_met g (4 * l) && test_met g (4 * l + 1)))

-- F20: a write, or none
abbrev pub write_slot : Given → (slot : ℕ) → List ℕ → List ℕ
write_slot g i σ = cond (eqb (get_or g.links i 0) 0) σ (set σ (part0 (get_or g.links i 0)) (link_value (get_or g.links i 0) (get_or g.numbers i 0) g.word))

-- the writes of a letter; F21: "within a letter the one further right"
unfoldable pub write_letter : Given → (letter : ℕ) → List ℕ → List ℕ
write_letter g l σ = write_slot g (4 * l + 3) (write_slot g (4 * l + 2) σ)

-- the row of the thread that a letter goes on in, or 0
abbrev pub thread_row_of : Given → (letter : ℕ) → ℕ
thread_row_of g l = part0 (get_or g.letters (768 + l) 0)

-- so many letters there are up to the last that goes on in one, and before the first
abbrev pub threaded : Given → ℕ
threaded g = part2 (get_or g.letters 768 0)

abbrev pub unthreaded : Given → ℕ
unthreaded g = part3 (get_or g.letters 768 0)
