-- One wire record (docs/REFERENCE.md, R1, R2, R4 to R6 and R11), on lists of bytes and on words as numbers. Assumes nothing.
use Rattle.std.specs.Prelude.{Bool, true, false, ◌||◌, ◌&&◌, List, [], ◌∷◌, ◌++◌, ℕ, zero, suc, ◌+◌, ◌*◌, ◌/◌, ◌%◌, ◌^◌, ltb, eqb, length, get_or, replicate}
use Rattle.refusals.specs.Numbers.{torn, idle_byte}
use Rattle.trace.specs.Answer.{Answer, value, refused}

-- ---- digits

-- digit i of a number in digits of k bits: its bits k * i to k * i + k - 1
unfoldable pub digit : ℕ → ℕ → ℕ → ℕ
digit k i n = n / 2 ^ (k * i) % 2 ^ k

-- the number whose digits 0 to i-1, of k bits each, are f 0, f 1, ..
unfoldable pub number : ℕ → (ℕ → ℕ) → ℕ → ℕ
number k f zero = 0
number k f (suc i) = number k f i + f i * 2 ^ (k * i)

-- R1: "Bit i of the map"
abbrev pub bit : ℕ → ℕ → ℕ
bit i map = digit 1 i map

-- R1: "byte i of the word, its bits 8i to 8i+7"
abbrev pub byte : ℕ → ℕ → ℕ
byte i word = digit 8 i word

-- ---- a record

-- how many of the bits 0 to i-1 of a map stand
unfoldable pub count : ℕ → ℕ → ℕ
count zero map = 0
count (suc i) map = count i map + bit i map

-- R1: of the bytes 0 to i-1 of a word "those .. whose bits stand in the map, lowest first"
unfoldable pub picked : ℕ → ℕ → ℕ → List ℕ
picked zero map word = []
picked (suc i) map word = picked i map word ++ replicate (bit i map) (byte i word)

-- R1: "A record is a map byte, followed by those bytes of a word whose bits stand in the map"
unfoldable pub record_of : ℕ → ℕ → List ℕ
record_of map word = map ∷ picked 8 map word

-- ---- writing

abbrev pub unlike : Bool → ℕ
unlike true = 0
unlike false = 1

-- R11: 1 where byte i of two words differs, else 0
unfoldable pub differs : ℕ → ℕ → ℕ → ℕ
differs before word i = unlike (eqb (byte i before) (byte i word))

-- R11: "sets in the map exactly the bits of the bytes that differ"
unfoldable pub changes : ℕ → ℕ → ℕ
changes before word = number 1 (differs before word) 8

-- R11: the record of a word after the word before
unfoldable pub written : ℕ → ℕ → List ℕ
written before word = record_of (changes before word) word

-- ---- reading

-- `given` holds the bytes that follow the map byte. The one for bit i stands behind those of the lower bits (R1).
abbrev pub given_for : ℕ → ℕ → List ℕ → ℕ
given_for i map given = get_or given (count i map) 0

abbrev pub choose : ℕ → ℕ → ℕ → ℕ
choose zero kept new = kept
choose (suc n) kept new = new

-- byte i of the word read: the byte given where bit i stands; R2: "The bytes whose bits do not stand are those of the word before."
unfoldable pub new_byte : ℕ → ℕ → List ℕ → ℕ → ℕ
new_byte before map given i = choose (bit i map) (byte i before) (given_for i map given)

unfoldable pub merged : ℕ → ℕ → List ℕ → ℕ
merged before map given = number 8 (new_byte before map given) 8

-- R6: "the byte given for some standing bit is that of the word before"
abbrev pub idle_at : ℕ → ℕ → ℕ → List ℕ → Bool
idle_at i before map given = eqb (bit i map) 1 && eqb (given_for i map given) (byte i before)

-- whether one of the bytes 0 to i-1 is idle
unfoldable pub idle : ℕ → ℕ → ℕ → List ℕ → Bool
idle zero before map given = false
idle (suc i) before map given = idle i before map given || idle_at i before map given

-- R4: what reading finds, a word with its record's length, or the end.
pub data Item : Type 0 where
  word : ℕ → ℕ → Item
  end : Item

-- X11: "A record is judged by 13 and then 14". R7: "Handed only the bytes from there on, it names place 0."
abbrev pub judged : Bool → Bool → Item → Answer Item
judged true any_idle item = refused torn 0
judged false true item = refused idle_byte 0
judged false false item = value item

-- R4: reading "the bytes from a record's beginning on", after the word `before`; "where no byte is left, with the end". R5: "fewer bytes follow the
-- map than bits stand in it".
unfoldable pub read_record : List ℕ → ℕ → Answer Item
read_record [] before = value end
read_record (map ∷ given) before =
    judged (ltb (length given) (count 8 map)) (idle 8 before map given)
    (word (merged before map given) (1 + count 8 map))
