-- The lines of lines.rt and foot.rt, each as its pieces one behind the other. Assumes nothing.
use mathlib.Core.Path.{◌≡◌, refl, ap, ◌∙◌}
use mathlib.Core.List.{List, [], ◌∷◌, ◌++◌, append_assoc}
use Prim.Native.Nat.{ℕ, ◌+◌, ◌≤◌}
use native.Mathlib.Omega.{arith}
use lib.ListN.{length}
use lib.Seq.{sets}
use Rattle.lexer.specs.Bytes.{bytes}
use Rattle.meaning.specs.Sheet.{decimal, hexadecimal, line, refusal_line, counts_line, clean_line, met_line, total_line, foot, all_met_lines}
use Rattle.meaning.specs.Totals.{sum}
use Rattle.sheet.specs.Lines.{bad_line, tick_front}
use Rattle.sheet.proofs.PageSteps.{Put, put_two}

pub refusal-line : (n p : ℕ) → bytes "refused" ++ ((32 ∷ decimal n) ++ ((32 ∷ decimal p) ++ (10 ∷ []))) ≡ refusal_line n (p ∷ [])
unfolding refusal_line line
refusal-line n p = refl

pub refusal-at-line : (n m l : ℕ) → bytes "refused" ++ ((32 ∷ decimal n) ++ ((32 ∷ decimal m) ++ ((32 ∷ decimal l) ++ (10 ∷ [])))) ≡ refusal_line n (m ∷ l ∷ [])
unfolding refusal_line line
refusal-at-line n m l = refl

pub counts-line : (r l : ℕ) → bytes "rows" ++ ((32 ∷ decimal r) ++ (bytes " letters" ++ ((32 ∷ decimal l) ++ (10 ∷ [])))) ≡ counts_line (record { rows = r; letters = l })
unfolding counts_line line
counts-line r l = refl

pub clean-pieces : (n : ℕ) → bytes "clean" ++ ((32 ∷ decimal n) ++ (10 ∷ [])) ≡ clean_line n
unfolding clean_line line
clean-pieces n = refl

-- behind a tick's front
pub behind-front : (t w : ℕ) (xs : List ℕ) → tick_front t w ++ xs ≡ decimal t ++ (32 ∷ (hexadecimal 16 w ++ (32 ∷ xs)))
behind-front t w xs =
    append_assoc (decimal t) (32 ∷ (hexadecimal 16 w ++ (32 ∷ []))) xs
    ∙ ap (λ (zs : List ℕ). decimal t ++ (32 ∷ zs)) (append_assoc (hexadecimal 16 w) (32 ∷ []) xs)

pub bad-line : (t w m : ℕ) → tick_front t w ++ (bytes "bad" ++ ((32 ∷ decimal m) ++ (10 ∷ []))) ≡ bad_line t w m
unfolding line
bad-line t w m = behind-front t w (bytes "bad" ++ ((32 ∷ decimal m) ++ (10 ∷ [])))

pub met-line : (i j c : ℕ) → bytes "met" ++ ((32 ∷ decimal i) ++ ((32 ∷ decimal j) ++ ((32 ∷ decimal c) ++ (10 ∷ [])))) ≡ met_line i j c
unfolding met_line line
met-line i j c = refl

total-pieces : (n : ℕ) → bytes "total" ++ ((32 ∷ decimal n) ++ (10 ∷ [])) ≡ total_line n
unfolding total_line line
total-pieces n = refl

pub foot-lines : (css : List (List ℕ)) (n : ℕ) → n ≡ sum css → all_met_lines 0 css ++ (bytes "total" ++ ((32 ∷ decimal n) ++ (10 ∷ []))) ≡ foot css
unfolding foot
foot-lines css n e = ap (λ (zs : List ℕ). all_met_lines 0 css ++ zs) (total-pieces n ∙ ap total_line e)

-- ---- a refusal put byte by byte

-- xs are put at a place, and are at most m bytes
abbrev Line : (o : List ℕ) (a : ℕ) (xs o' : List ℕ) (a' m : ℕ) → Type 0
Line o a xs o' a' m = (o' ≡ sets o a xs) × (a' ≡ a + length xs) × (length xs ≤ m)

pub refusal-put : (n p : ℕ) {o o₁ o₂ o₃ o₄ o₅ : List ℕ} {a a₁ a₂ a₃ a₄ a₅ : ℕ}
    → Put o a (bytes "refused ") o₁ a₁ → Put o₁ a₁ (decimal n) o₂ a₂ → Put o₂ a₂ (32 ∷ []) o₃ a₃ → Put o₃ a₃ (decimal p) o₄ a₄ → Put o₄ a₄ (10 ∷ []) o₅ a₅ → length (decimal n) ≤ 20 → length (decimal p) ≤ 20
    → Line o a (refusal_line n (p ∷ [])) o₅ a₅ 64
unfolding refusal_line line
refusal-put n p p₁ p₂ p₃ p₄ p₅ l₁ l₂ =
    let q = put_two p₁ (put_two p₂ (put_two p₃ (put_two p₄ p₅))) in
    (q.wrote, q.behind, omega (arith, p₁.behind, p₂.behind, p₃.behind, p₄.behind, p₅.behind, q.behind, l₁, l₂))
