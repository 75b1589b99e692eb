-- Which limits count each letter (docs/REFERENCE.md, G22 and S14): a number, whose bits are the limits in their order. Assumes nothing.
use Rattle.std.specs.Prelude.{List, [], ◌∷◌, map, ◌≡◌, ℕ, ◌+◌, ◌*◌, ◌≤◌, length, take, drop}
use Rattle.std.proofs.lemmas.List.Edits.{sets}
use Rattle.meaning.specs.Lists.{member}
use Rattle.meaning.specs.Expression.{Letter, Exp, letters, size}
use Rattle.words.specs.Words.{part0}
use Rattle.rules.specs.Cells.{flag, Denotes}

-- of limits with these words, those whose production is among the numbers ps
unfoldable pub word_mask : (words ps : List ℕ) → ℕ
word_mask [] ps = 0
word_mask (w ∷ ws) ps = flag (member (part0 w) ps) + 2 * word_mask ws ps

-- the words of so many limits, which stand behind the values of 16 stores
abbrev pub limit_words : (kept : List ℕ) → (limits : ℕ) → List ℕ
limit_words S n = take n (drop 16 S)

-- the numbers of letters
abbrev pub masks_of : (words : List ℕ) → List Letter → List ℕ
masks_of ws xs = map (λ x. word_mask ws x.through) xs

-- an expression stands at a node, and there is room for its letters
pub record LettersAt (P : List ℕ) (c node index : ℕ) (e : Exp) : Type 0 where
  pub within : c ≤ length P
  pub denotes : Denotes P c node e
  pub space : index + size e ≤ 256

abbrev pub SomeLetters : List ℕ → (node index : ℕ) → Type 0
SomeLetters P node index = (c : ℕ) × (e : Exp) × LettersAt P c node index e

-- its letters' numbers are stored, and the index of the next letter is known
pub record MasksStored (words : List ℕ) (index : ℕ) (e : Exp) (C C' : List ℕ) (l : ℕ) : Type 0 where
  pub stored : C' ≡ sets C index (masks_of words (letters e))
  pub next_letter : l ≡ index + size e
