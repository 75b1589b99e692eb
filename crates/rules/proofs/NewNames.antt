-- A name that must be new: what the function that reads it answers, and what reading on comes to. Assumes nothing.
use mathlib.Core.Path.{◌≡◌, refl, sym, ◌∙◌, ap, subst}
use mathlib.Core.Bool.{Bool, true, false, ◌||◌}
use mathlib.Core.List.{List}
use mathlib.Core.Option.{none}
use Prim.Native.Nat.{ℕ, ◌-◌, ◌<◌, ◌≤◌}
use native.Mathlib.Omega.{arith}
use borrow.Author.Tests.{le-leb, lt-leb}
use lib.Dec.{leb}
use lib.ListN.{length, take, drop}
use Rattle.lexer.specs.Bytes.{lookup}
use Rattle.lexer.specs.Tokens as token
use Rattle.lexer.specs.Tokens.{Placed, token_at, rule_words}
use Rattle.lexer.proofs.Sized.{Lies, lies}
use Rattle.meaning.specs.Answers.{refused, byte}
use Rattle.refusals.specs.Numbers.{twice, oversize, crowded}
use Rattle.meaning.specs.Reading.{Expect, Step, is_known, unless, on_name, if_name, new_name, step, and_then}
use Rattle.meaning.specs.Names.{Names}
use Rattle.rules.specs.declared.declarations.Scope.{Scope}
use Rattle.lexer.specs.declared.Token.{Token as Seen}
use Rattle.lexer.specs.declared.Kind.TheVariants as kind
use Rattle.rules.specs.Seen.{fault_of, Sees}
use Rattle.rules.specs.Cells.{Cells, Finds}
use Rattle.rules.specs.Picks.{bytes_of}
use Rattle.rules.specs.Reads.{read_from, fine, faulted, placed}
use Rattle.rules.specs.Scopes.{NewAt, NameRead}
use Rattle.rules.proofs.Stepping.{well, ill, wrong, right, no_name, name-is, faults}
use Rattle.rules.proofs.Picking.{missing, present}
use Rattle.rules.proofs.OnNumber.{on-token}

-- ---- what the function answers

module _ (text P : List ℕ) (scope : Scope) (pos : ℕ) (no_wire full : Bool) (t : Seen) (e : Sees text pos t) where
  pub new_none : (t.kind ≡ kind.Name → ⊥) → (a : ℕ) → NameRead text P scope pos no_wire full (fault_of t.kind) t.place a
  unfolding NameRead new_name
  new_none q a =
      faulted (faults text pos t e) (λ c ns k n next.
      ap (λ (u : Placed). new_name ns u no_wire full next) (sym e.token) ∙ no_name text pos t e q _)

  module _ (q : t.kind ≡ kind.Name) (r : ℕ) (f : Finds text P scope.last (bytes_of text t) r) where
    -- the token
    abbrev name : Placed
    name = placed (token.name (bytes_of text t)) t.place t.after

    is_name : token_at rule_words text pos ≡ name
    is_name = sym e.token ∙ name-is text pos t e q

    -- what it leads to
    tests : (ns : Names) (next : List ℕ → Step) → new_name ns (token_at rule_words text pos) no_wire full next
        ≡ unless (is_known (lookup (bytes_of text t) ns.declared)) twice name
        (unless no_wire oversize name (unless (full || leb 128 (length ns.declared)) crowded name (next (bytes_of text t))))
    unfolding new_name on_name if_name
    tests ns next = ap (λ (u : Placed). new_name ns u no_wire full next) is_name

    pub new-known : (r ≡ 0 → ⊥) → (a : ℕ) → NameRead text P scope pos no_wire full 5 t.place a
    unfolding NameRead
    new-known n a =
        faulted (λ z. omega arith) (λ c ns k m next.
        tests ns next ∙ wrong _ _ _ _ (ap is_known (present P c r (lookup (bytes_of text t) ns.declared) (f c ns.declared k) n).1))

    module _ (z : r ≡ 0) where
      not_found : (c : ℕ) (ns : Names) → Cells text P c scope.last ns.declared → lookup (bytes_of text t) ns.declared ≡ none
      not_found c ns k = missing P c r _ (f c ns.declared k) z

      not_known : (c : ℕ) (ns : Names) → Cells text P c scope.last ns.declared → is_known (lookup (bytes_of text t) ns.declared) ≡ false
      not_known c ns k = ap is_known (not_found c ns k)

      pub new-wireless : no_wire ≡ true → (a : ℕ) → NameRead text P scope pos no_wire full 6 t.place a
      unfolding NameRead
      new-wireless w a = faulted (λ z. omega arith) (λ c ns k m next. tests ns next ∙ right _ _ _ _ (not_known c ns k) ∙ wrong _ _ _ _ w)

      module _ (w : no_wire ≡ false) where
        crowd : full || leb 128 scope.count ≡ true → (a : ℕ) → NameRead text P scope pos no_wire full 7 t.place a
        unfolding NameRead
        crowd l a =
            faulted (λ z. omega arith) (λ c ns k m next.
            tests ns next ∙ right _ _ _ _ (not_known c ns k) ∙ right _ _ _ _ w ∙ wrong _ _ _ _ (subst (λ (j : ℕ). full || leb 128 j ≡ true) m l))

        pub new-full : full ≡ true → (a : ℕ) → NameRead text P scope pos no_wire full 7 t.place a
        new-full l a = crowd (ap (λ (b : Bool). b || leb 128 scope.count) l) a

        module _ (o : full ≡ false) where
          counted : (b : Bool) → leb 128 scope.count ≡ b → full || leb 128 scope.count ≡ b
          counted b l = ap (λ (b : Bool). b || leb 128 scope.count) o ∙ l

          pub new-crowded : 128 ≤ scope.count → (a : ℕ) → NameRead text P scope pos no_wire full 7 t.place a
          new-crowded l a = crowd (counted true (le-leb 128 scope.count l)) a

          pub new-read : scope.count < 128 → NameRead text P scope pos no_wire full 0 t.place t.after
          unfolding NameRead
          new-read l =
              let y = subst (Lies text pos) is_name (lies rule_words text pos) in
              fine refl (record {
                low = (y.grows refl).0;
                some = (y.grows refl).1;
                inside = y.high;
                token = is_name;
                wire = w;
                room = o;
                few = l;
                leads = λ c ns k m. (
                  not_found c ns k,
                  λ next.
                      tests ns next ∙ right _ _ _ _ (not_known c ns k) ∙ right _ _ _ _ w
                      ∙ right _ _ _ _ (subst (λ (j : ℕ). full || leb 128 j ≡ false) m (counted false (lt-leb 128 scope.count l))),
                );
              })

-- ---- reading on, in a state in which a new name is expected

module _ (text P : List ℕ) (scope : Scope) (pos : ℕ) (no_wire full : Bool) (f place after : ℕ) (r : NameRead text P scope pos no_wire full f place after) where
  pub name-read : f ≡ 0 → NewAt text P scope pos no_wire full place after
  unfolding NameRead
  name-read z = well r z

  module _ (c : ℕ) (ns : Names) (k : Cells text P c scope.last ns.declared) (n : scope.count ≡ length ns.declared) (x : Expect) (next : List ℕ → Step)
      (new : step ns x (token_at rule_words text pos) ≡ new_name ns (token_at rule_words text pos) no_wire full next) where
    pub name-refused : (f ≡ 0 → ⊥) → read_from text pos ns x ≡ refused f (byte place)
    unfolding NameRead
    name-refused b = on-token text pos _ refl ns x _ (new ∙ ill r b c ns k n next)

    pub name-on : f ≡ 0 → read_from text pos ns x ≡ and_then (next (take (after - place) (drop place text))) (λ ms y. read_from text after ms y)
    name-on z =
        let w = name-read z in
        on-token text pos _ refl ns x _ (new ∙ (w.leads c ns k n).1 next)
        ∙ ap (λ (u : Placed). and_then (next (take (after - place) (drop place text))) (λ ms y. read_from text u.after ms y)) w.token
