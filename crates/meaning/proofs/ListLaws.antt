-- Facts on lists that the proofs share: `each`, membership, tests.
use mathlib.Core.List.{List, [], ◌∷◌, ◌++◌, map, append_assoc, map-append}
pub use mathlib.Core.List.Memᴰ.{append_cases as append-∈}
pub use mathlib.Core.List.Memᴰ.{append_left as ∈-left}
pub use mathlib.Core.List.Memᴰ.{append_right as ∈-right}
pub use mathlib.Core.List.Memᴰ.{cases_cons as cons-∈}
pub use mathlib.Core.List.Memᴰ.{cast as ∈-cast}
pub use mathlib.Core.List.Memᴰ.{eq_of_singleton as one-∈}
pub use mathlib.Core.List.Memᴰ.{head as here}
pub use mathlib.Core.List.Memᴰ.{map as ∈-map}
pub use mathlib.Core.List.Memᴰ.{not-nil as no-∈}
pub use mathlib.Core.List.Memᴰ.{of_map as map-∈}
pub use mathlib.Core.List.Memᴰ.{tail as there}
use mathlib.Core.Bool.{Bool, true, false, not, cond, ◌&&◌, ◌||◌, or_assoc}
use mathlib.Core.Path.{◌≡◌, refl, sym, ap, ◌∙◌, subst, fun_ext}
use mathlib.Core.Logic.{◌⊎◌, inl, inr}
use Prim.Native.Nat.{ℕ}
use lib.Dec.{T, eqb, eqb→eq, eqb_refl}
pub use Rattle.trace.proofs.Clash.{clash}
use Rattle.meaning.specs.Lists.{◌∈◌, carry, each, any, all, only, member}

module _ {A B : Type 0} where
  pub each_append : (xs ys : List A) (f : A → List B) → each (xs ++ ys) f ≡ each xs f ++ each ys f
  each_append [] ys f = refl
  each_append (x ∷ xs) ys f = rw (each_append xs ys f) (sym (append_assoc (f x) (each xs f) (each ys f)))

  pub each-cong : (xs : List A) {f g : A → List B} → ((x : A) → f x ≡ g x) → each xs f ≡ each xs g
  each-cong xs p = ap (each xs) (fun_ext p)

  pub ∈-each : {x : A} {xs : List A} {y : B} (f : A → List B) → x ∈ xs → y ∈ f x → y ∈ each xs f
  ∈-each {y} f (here {x = z} {xs = zs} p) m = ∈-left (each zs f) (subst (λ a. y ∈ f a) p m)
  ∈-each f (there {x = z} i) m = ∈-right (f z) (∈-each f i m)

  pub each-∈ : {y : B} (xs : List A) (f : A → List B) → y ∈ each xs f → (x : A) × (x ∈ xs) × (y ∈ f x)
  each-∈ [] f m = absurd (no-∈ m)
  each-∈ {y} (x ∷ xs) f m = go (each-∈ xs f) (append-∈ (f x) m)
    where
      go : (y ∈ each xs f → (z : A) × (z ∈ xs) × (y ∈ f z)) → (y ∈ f x) ⊎ (y ∈ each xs f) → (z : A) × (z ∈ x ∷ xs) × (y ∈ f z)
      go ih (inl i) = (x, here refl, i)
      go ih (inr i) = let r = ih i in (r.0, there r.1, r.2)

module _ {A B C : Type 0} where
  pub each_map : (xs : List A) (g : A → B) (f : B → List C) → each (map g xs) f ≡ each xs (λ x. f (g x))
  each_map [] g f = refl
  each_map (x ∷ xs) g f = ap (λ l. f (g x) ++ l) (each_map xs g f)

  pub map_each : (xs : List A) (f : A → List B) (g : B → C) → map g (each xs f) ≡ each xs (λ x. map g (f x))
  map_each [] f g = refl
  map_each (x ∷ xs) f g = map-append g (f x) (each xs f) ∙ ap (λ l. map g (f x) ++ l) (map_each xs f g)

  pub each-each : (xs : List A) (f : A → List B) (g : B → List C) → each (each xs f) g ≡ each xs (λ x. each (f x) g)
  each-each [] f g = refl
  each-each (x ∷ xs) f g = each_append (f x) (each xs f) g ∙ ap (λ l. each (f x) g ++ l) (each-each xs f g)

module _ {A : Type 0} where
  pub map-id : (xs : List A) → map (λ x. x) xs ≡ xs
  map-id [] = refl
  map-id (x ∷ xs) = ap (λ l. x ∷ l) (map-id xs)

-- tests
pub T_and : (a b : Bool) → T a → T b → T (a && b)
T_and true b p q = q
T_and false b p q = absurd p

pub and_T : (a b : Bool) → T (a && b) → T a × T b
and_T true b p = (tt, p)
and_T false b p = absurd p

pub or-T : (a b : Bool) → T (a || b) → T a ⊎ T b
or-T true b p = inl tt
or-T false b p = inr p

pub T-or-left : (a b : Bool) → T a → T (a || b)
T-or-left true b p = tt
T-or-left false b p = absurd p

pub T-or-right : (a b : Bool) → T b → T (a || b)
T-or-right true b p = tt
T-or-right false b p = p

module _ {A : Type 0} where
  pub ∈-only : (b : Bool) {x : A} {xs : List A} → T b → x ∈ xs → x ∈ only b xs
  ∈-only true t i = i
  ∈-only false t i = absurd t

  pub only-∈ : (b : Bool) {x : A} {xs : List A} → x ∈ only b xs → T b × (x ∈ xs)
  only-∈ true i = (tt, i)
  only-∈ false i = absurd (no-∈ i)

pub same_truth : (a b : Bool) → (T a → T b) → (T b → T a) → a ≡ b
same_truth true true f g = refl
same_truth true false f g = absurd (f tt)
same_truth false true f g = absurd (g tt)
same_truth false false f g = refl

pub by-test : {P : Type 0} (b : Bool) → (T b → P) → (T (not b) → P) → P
by-test true f g = f tt
by-test false f g = g tt

pub by_cond : {A : Type 0} (P : A → Type 0) (b : Bool) (x y : A) → (T b → P x) → (T (not b) → P y) → P (cond b x y)
by_cond P true x y f g = f tt
by_cond P false x y f g = g tt

pub is_true : (b : Bool) → T b → b ≡ true
is_true true t = refl
is_true false t = absurd t

pub is_false : (b : Bool) → (T b → ⊥) → b ≡ false
is_false true h = absurd (h tt)
is_false false h = refl

module _ {A : Type 0} (p : A → Bool) where
  pub any-from : {x : A} {xs : List A} → x ∈ xs → T (p x) → T (any p xs)
  any-from (here {x = y} {xs = ys} e) t = T-or-left (p y) (any p ys) (subst (λ z. T (p z)) e t)
  any-from (there {x = y} {xs = ys} i) t = T-or-right (p y) (any p ys) (any-from i t)

  pub any-to : (xs : List A) → T (any p xs) → (x : A) × (x ∈ xs) × T (p x)
  any-to [] t = absurd t
  any-to (y ∷ ys) t = pick (any-to ys) (or-T (p y) (any p ys) t)
    where
      pick : (T (any p ys) → (x : A) × (x ∈ ys) × T (p x)) → T (p y) ⊎ T (any p ys) → (x : A) × (x ∈ y ∷ ys) × T (p x)
      pick ih (inl q) = (y, here refl, q)
      pick ih (inr q) = let (x, i, u) = ih q in (x, there i, u)

  pub any_append : (xs ys : List A) → any p (xs ++ ys) ≡ any p xs || any p ys
  any_append [] ys = refl
  any_append (x ∷ xs) ys = ap (λ b. p x || b) (any_append xs ys) ∙ sym (or_assoc (p x) (any p xs) (any p ys))

  pub all-at : {x : A} {xs : List A} → x ∈ xs → T (all p xs) → T (p x)
  all-at (here {x = y} {xs = ys} e) t = subst (λ z. T (p z)) (sym e) (and_T (p y) (all p ys) t).0
  all-at (there {x = y} {xs = ys} i) t = all-at i (and_T (p y) (all p ys) t).1

  pub all_from : (xs : List A) → ((x : A) → x ∈ xs → T (p x)) → T (all p xs)
  all_from [] h = tt
  all_from (y ∷ ys) h = T_and (p y) (all p ys) (h y (here refl)) (all_from ys (λ x i. h x (there i)))

pub ∈-member : (n : ℕ) (ns : List ℕ) → n ∈ ns → T (member n ns)
∈-member n ns i = any-from (eqb n) i (eqb_refl n)

pub member-∈ : (n : ℕ) (ns : List ℕ) → T (member n ns) → n ∈ ns
member-∈ n ns t = let (k, i, p) = any-to (eqb n) ns t in ∈-cast (eqb→eq n k p) i

pub none_in : {A : Type 0} {x : A} {xs : List A} → xs ≡ [] → x ∈ xs → ⊥
none_in {x} p i = no-∈ (subst (λ l. x ∈ l) p i)

pub carry-append : {A B : Type 0} (f : B → A → B) (b : B) (xs ys : List A) → carry f b (xs ++ ys) ≡ carry f (carry f b xs) ys
carry-append f b [] ys = refl
carry-append f b (x ∷ xs) ys = carry-append f (f b x) xs ys
