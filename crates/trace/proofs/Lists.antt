-- Lists, where the code lends a part of one or stores into one. Assumes nothing.
use mathlib.Core.Path.{◌≡◌}
use mathlib.Core.List.{List, [], ◌∷◌, ◌++◌, append_assoc}
use Prim.Native.Nat.{ℕ, suc, ◌-◌, ◌<◌}
use native.Mathlib.Nat.{le_of_eq}
use lib.ListN.{length, get_or, take, drop, set, length-drop}
use lib.Seq.{take_all, drop-cons, set_at}

-- the part from n to the end, as `&s[n..]` has it
pub part-rest : (n : ℕ) (l : List ℕ) → take (length l - n) (drop n l) ≡ drop n l
part-rest n l = take_all (length l - n) (drop n l) (le_of_eq (length-drop n l))

-- a store just behind the new elements p of a list whose others are those of l
pub set_next : (p l : List ℕ) (n v : ℕ) → length p ≡ n → n < length l → set (p ++ drop n l) n v ≡ (p ++ (v ∷ [])) ++ drop (suc n) l
set_next p l n v e h = rw (drop-cons l n 0 h, set_at p (get_or l n 0) (drop (suc n) l) v n e, append_assoc)
