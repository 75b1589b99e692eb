-- A name of a kind that is wanted. Assumes nothing.
use mathlib.Core.Path.{◌≡◌, refl, sym, ◌∙◌, ap}
use mathlib.Core.Bool.{true, false, false≢true}
use mathlib.Core.List.{List}
use mathlib.Core.Option.{Option, none, some}
use Prim.Native.Nat.{ℕ, ◌<◌}
use native.Mathlib.Omega.{arith}
use lib.ListN.{length}
use Rattle.lexer.specs.Bytes.{lookup}
use Rattle.lexer.specs.Tokens.{Placed}
use Rattle.meaning.specs.Expression.{Literal, Exp}
use Rattle.meaning.specs.Reading.{Step, fault, known, on_name, if_name, by_kind, at_token}
use Rattle.meaning.specs.Names.{Names, Meaning, an_input, a_store, a_define, a_production}
use Rattle.lexer.specs.declared.Token.{Token as Seen}
use Rattle.lexer.specs.declared.Kind.TheVariants as kinds
use Rattle.rules.specs.Seen.{fault_of, seen, Sees}
use Rattle.words.specs.Words.{part0}
use Rattle.std.specs.Option.{is_some}
use Rattle.std.specs.Prelude as O
use Rattle.rules.specs.NamesFound.{cell_of, FindsCell}
use Rattle.rules.specs.Cells.{at, Means, Declared, Found, Finds}
use Rattle.rules.specs.Picks.{kind_number, Only, bytes_of, Picked, Rejected, Picks}
use Rattle.rules.specs.Reads.{Unless, fine, faulted}
use Rattle.rules.proofs.Stepping.{no_name, name-is, faults}

-- the kind that a cell has
pub cell-kind : (P : List ℕ) (c h : ℕ) (m : Meaning) → Means P c h m → part0 (at P h) ≡ kind_number m
unfolding Means
cell-kind P c h (an_input lo w) k = k.kind
cell-kind P c h (a_store n w) k = k.kind
cell-kind P c h (a_define ls) k = k.kind
cell-kind P c h (a_production e) k = k.kind

-- a known name goes by its kind
pub known-name : (text : List ℕ) (pos : ℕ) (t : Seen) → Sees text pos t → t.kind ≡ kinds.Name → (ns : Names) (o : Option Meaning) → lookup (bytes_of text t) ns.declared ≡ o
    → (i s : ℕ → ℕ → Step) (d : List Literal → Step) (p : Exp → Step) → known ns (seen text t) i s d p ≡ by_kind o i s d p (fault 4 t.place)
unfolding known on_name if_name at_token by_kind
known-name text pos t e q ns o f i s d p =
    ap (λ (u : Placed). known ns u i s d p) (name-is text pos t e q) ∙ ap (λ (z : Option Meaning). by_kind z i s d p (fault 4 t.place)) f

-- a spelling that is not found, and one that is
pub missing : (P : List ℕ) (c r : ℕ) (o : Option Meaning) → Found P c r o → r ≡ 0 → o ≡ none
missing P c r none g z = refl
missing P c r (some m) g z = let l = g.0 in absurd (omega arith)

pub present : (P : List ℕ) (c r : ℕ) (o : Option Meaning) → Found P c r o → (r ≡ 0 → ⊥) → (m : Meaning) × (o ≡ some m) × Means P c r m
present P c r none g n = absurd (n g)
present P c r (some m) (p, u, y) n = (m, refl, y)

module _ (text P : List ℕ) (h : ℕ) (pos : ℕ) (t : Seen) (e : Sees text pos t) (kind : ℕ) where
  pub pick-none : (t.kind ≡ kinds.Name → ⊥) → Picks text P h t kind (fault_of t.kind) 0
  unfolding Picks known
  pick-none q c ns k = faulted (faults text pos t e) (λ i s d p o. no_name text pos t e q _)

  pub pick-unknown : t.kind ≡ kinds.Name → (r : ℕ) → Finds text P h (bytes_of text t) r → r ≡ 0 → Picks text P h t kind 4 0
  unfolding Picks by_kind
  pick-unknown q r f z c ns k =
      faulted (λ n. omega arith) (λ i s d p o. known-name text pos t e q ns none (missing P c r _ (f c ns.declared k) z) i s d p)

  pub pick_other : t.kind ≡ kinds.Name → (r : ℕ) → Finds text P h (bytes_of text t) r → (r ≡ 0 → ⊥) → (part0 (at P r) ≡ kind → ⊥) → Picks text P h t kind 4 0
  unfolding Picks by_kind at_token seen
  pick_other q r f n b c ns k =
      faulted (λ z. omega arith) (λ i s d p o.
      let (m, l, y) = present P c r _ (f c ns.declared k) n in
      known-name text pos t e q ns (some m) l i s d p ∙ other m (λ z. b (cell-kind P c r m y ∙ z)) i s d p o)
    where
      other : (m : Meaning) → (kind_number m ≡ kind → ⊥) → (i s : ℕ → ℕ → Step) (d : List Literal → Step) (p : Exp → Step) → Only kind (seen text t) i s d p → by_kind (some m) i s d p (fault 4 t.place) ≡ fault 4 t.place
      other (an_input lo w) n i s d p o = ap (λ (g : ℕ → ℕ → Step). g lo w) (o.inputs (λ z. n (sym z)))
      other (a_store a w) n i s d p o = ap (λ (g : ℕ → ℕ → Step). g a w) (o.stores (λ z. n (sym z)))
      other (a_define ls) n i s d p o = ap (λ (g : List Literal → Step). g ls) (o.defines (λ z. n (sym z)))
      other (a_production x) n i s d p o = ap (λ (g : Exp → Step). g x) (o.productions (λ z. n (sym z)))

  pub picked : t.kind ≡ kinds.Name → (r : ℕ) → Finds text P h (bytes_of text t) r → (r ≡ 0 → ⊥) → part0 (at P r) ≡ kind → Picks text P h t kind 0 r
  unfolding Picks
  picked q r f n b c ns k = by (lookup (bytes_of text t) ns.declared) refl (f c ns.declared k)
    where
      by : (o : Option Meaning) → lookup (bytes_of text t) ns.declared ≡ o → Found P c r o → Unless 0 (Picked text P c ns t kind r) (Rejected text ns t kind 0)
      by none l g = absurd (n g)
      by (some m) l (p, u, y) = fine refl (record { name = q; meaning = m; found = l; of = sym (cell-kind P c r m y) ∙ b; positive = p; used = u; means = y })

-- a cell that is found lies within the words
pub found_inside : (text P : List ℕ) (h : ℕ) (s : List ℕ) (r : ℕ) → Finds text P h s r → Declared text P h → (r ≡ 0 → ⊥) → r < length P
found_inside text P h s r f (c, es, l, k) n = by (lookup s es) (f c es k)
  where
    by : (o : Option Meaning) → Found P c r o → r < length P
    by none g = absurd (n g)
    by (some m) (p, u, y) = omega arith

-- what was found, by its cell
pub finds-cell : (text P : List ℕ) (h : ℕ) (s : List ℕ) (o : O.Option ℕ) → FindsCell text P h s o → Finds text P h s (cell_of o)
finds-cell text P h s O.None f = f
finds-cell text P h s (O.Some cell) f = f.0

pub was-found : (text P : List ℕ) (h : ℕ) (s : List ℕ) (o : O.Option ℕ) → FindsCell text P h s o → true ≡ is_some o → cell_of o ≡ 0 → ⊥
was-found text P h s O.None f e z = absurd (false≢true (sym e))
was-found text P h s (O.Some cell) f e z = f.1 z

pub not-found : (o : O.Option ℕ) → false ≡ is_some o → cell_of o ≡ 0
not-found O.None e = refl
not-found (O.Some cell) e = absurd (false≢true e)

pub found-cell : (text P : List ℕ) (h : ℕ) (s : List ℕ) (o : O.Option ℕ) → FindsCell text P h s o → O.IfSome o (λ cell. cell ≡ 0 → ⊥)
found-cell text P h s O.None f = tt
found-cell text P h s (O.Some cell) f = f.1
