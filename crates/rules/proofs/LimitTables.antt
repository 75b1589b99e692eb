-- What a watch has for its limits, as it is stored: which of them count each letter, and their windows before the first tick. Assumes nothing.
use mathlib.Core.Path.{◌≡◌, refl, sym, ◌∙◌, ap, ap₂, fun_ext}
use mathlib.Core.List.{List, [], ◌∷◌, ◌++◌, map, map-append}
use Prim.Native.Nat.{ℕ, zero, suc, ◌+◌, ◌-◌, ◌<◌, ◌≤◌, min}
use native.Mathlib.Omega.{arith}
use lib.ListN.{length, length-map, get_or, drop, set, replicate, length-replicate, get_or-append}
use lib.Seq.{sets, sets-eq}
use Rattle.words.specs.Words.{part1, part2}
use Rattle.windows.specs.Windows.{limited, most_at, back_at, limits_at, opened_windows}
use Rattle.meaning.specs.Lists.{◌∈◌, each}
use Rattle.meaning.specs.Expression.{Letter, Exp, letters, renumbered}
use Rattle.meaning.specs.Names.{Limit}
use Rattle.rules.specs.Scopes.{limit_word}
use Rattle.rules.specs.Counted.{word_mask, masks_of}
use Rattle.rules.specs.Watches.{limit_mask}
use Rattle.rules.proofs.Starting.{each-renumbered}
use Rattle.rules.proofs.LimitNumbers.{mask-by-words}

-- ---- a list that is stored

-- from the front on
pub stored-front : (L ys : List ℕ) → length ys ≤ length L → sets L 0 ys ≡ ys ++ drop (length ys) L
stored-front L ys room = let e : 0 + length ys ≡ length ys = omega arith in sets-eq ys L 0 (omega arith) ∙ ap (λ (n : ℕ). ys ++ drop n L) e

pub stored_at : (L ys : List ℕ) → length ys ≤ length L → (i : ℕ) → i < length ys → get_or (sets L 0 ys) i 0 ≡ get_or ys i 0
stored_at L ys room i h = ap (λ (s : List ℕ). get_or s i 0) (stored-front L ys room) ∙ get_or-append ys (drop (length ys) L) 0 i h

-- ---- the limits that count each letter

pub each_map : (f : Letter → ℕ) (ms : List Exp) → each ms (λ m. map f (letters m)) ≡ map f (each ms letters)
each_map f [] = refl
each_map f (m ∷ ms) = ap (λ (ys : List ℕ). map f (letters m) ++ ys) (each_map f ms) ∙ sym (map-append f (letters m) (each ms letters))

-- by the limits' words, of letters that may be numbered as one likes
pub counted_same : (ms : List Exp) (ls : List Limit) → ((l : Limit) → l ∈ ls → l.production < 128) → (ws : List ℕ) → ws ≡ map limit_word ls
    → sets (replicate 256 0) 0 (each ms (λ m. masks_of ws (letters m))) ≡ sets (replicate 256 0) 0 (each (map (renumbered 0) ms) (λ m. map (limit_mask ls) (letters m)))
counted_same ms ls small ws e =
    ap (sets (replicate 256 0) 0)
    (each_map _ ms ∙ sym (each-renumbered (λ x. word_mask ws x.through) (λ x k. refl) ms)
    ∙ ap (λ (f : Letter → ℕ). map f (each (map (renumbered 0) ms) letters)) (fun_ext (λ x. ap (λ (us : List ℕ). word_mask us x.through) e ∙ mask-by-words ls small x))
    ∙ sym (each_map (limit_mask ls) (map (renumbered 0) ms)))

-- ---- windows

-- they are made of the words that there are
limited-same : (L M : List ℕ) (n : ℕ) → ((i : ℕ) → i < n → get_or L i 0 ≡ get_or M i 0) → limited L n ≡ limited M n
unfolding limited
limited-same L M zero h = refl
limited-same L M (suc n) h =
    ap₂ (λ (W : List ℕ) (w : ℕ). set (set W (most_at n) (part1 w)) (back_at n) (1024 - part2 w)) (limited-same L M n (λ i l. h i (omega arith))) (h n (omega arith))

pub windows-same : (ls : List Limit) (n : ℕ) (ws : List ℕ) → n ≡ length ls → n ≤ 8 → ws ≡ map limit_word ls
    → opened_windows (sets (replicate 8 0) 0 ws) n ≡ opened_windows (map limit_word ls) (length ls)
windows-same ls n ws e l w =
    let m = length-map ls limit_word in
    let r = length-replicate {A = ℕ} 8 0 in
    rw (w, e)
    (ap (λ (W : List ℕ). set W limits_at (min (length ls) 8))
    (limited-same (sets (replicate 8 0) 0 (map limit_word ls)) (map limit_word ls) (min (length ls) 8) (λ i h. stored_at (replicate 8 0) (map limit_word ls) (omega arith) i (omega arith))))
