-- A limit more: the production that it names, its two numbers of ticks, and what is known of the names then. Assumes nothing.
use mathlib.Core.Path.{◌≡◌, refl, sym, ◌∙◌, ap, ap₂, subst}
use mathlib.Core.Bool.{Bool, true, ◌||◌}
use mathlib.Core.List.{List, [], ◌∷◌, ◌++◌, map-append}
use mathlib.Core.Option.{Option, none, some}
use Prim.Native.Nat.{ℕ, suc, ◌+◌, ◌<◌, ◌≤◌}
use native.Mathlib.Omega.{arith}
use native.Mathlib.Numerals.{add-one}
use borrow.Author.Tests.{le-leb, lt-leb, le-ltb, lt-ltb}
use lib.Dec.{leb, ltb}
use lib.ListN.{length, take, drop, set, length-set, length-append, length-drop}
use lib.Seq.{take-set-le, take-suc-set, drop-set-add}
use Rattle.lexer.specs.Tokens as token
use Rattle.lexer.specs.Tokens.{Placed}
use Rattle.refusals.specs.Numbers.{stretch}
use Rattle.meaning.specs.Expression.{Literal, Write, Exp, letter, seq, alt, star, pipe, newest, single}
use Rattle.meaning.specs.Reading.{Expect, statement, sign, keyword, closing, limit_name, limit_most, limit_window, go, unless, at_token, if_number, on_number, of_single, step}
use Rattle.meaning.specs.Names.{Limit, Names, new_limit, declare}
use Rattle.words.specs.Words.{quad, part0, part2}
use Rattle.rules.specs.declared.declarations.Scope.{Scope}
use Rattle.lexer.specs.declared.Token.{Token as Seen}
use Rattle.lexer.specs.declared.Kind.TheVariants as kind
use Rattle.rules.specs.Seen.{fault_of, seen, Sees}
use Rattle.rules.specs.Cells.{at, Node, LetterNode, CameNode, Denotes, Cells, Declared as SomeNames}
use Rattle.rules.specs.Picks.{Picks}
use Rattle.rules.specs.Reads.{read_from, fine, faulted, Behind}
use Rattle.rules.specs.Scopes.{limit_word, Known, Ready, Declares}
use Rattle.rules.specs.Limits.{SingleRead, Between, TicksAt, TicksRead, LimitRead}
use Rattle.rules.proofs.Stepping.{well, ill, wrong, right, faults, past, on_step, number_is, no_number, behind-past}
use Rattle.rules.proofs.Put.{extends-refl}
use Rattle.rules.proofs.MonitorSteps.{only-productions, the-production, declares_production}
use Rattle.rules.proofs.Widths.{signed}
use Rattle.rules.proofs.Declaring.{answered, refuse, or_right}

-- ---- the production

-- A node says whether its expression is a single letter that came through a production, and its number.
pub record Told (P : List ℕ) (c k : ℕ) (o : Option ℕ) : Type 0 where
  pub inside : k < c
  pub came : part0 (at P k) ≡ 5 → o ≡ some (part2 (at P k))
  pub other : (part0 (at P k) ≡ 5 → ⊥) → o ≡ none

module _ (P : List ℕ) (c k : ℕ) where
  told-other : (kind : ℕ) → Node P c k kind → kind < 5 → Told P c k none
  unfolding Node
  told-other kind (p, l, e) m = record { inside = l; came = λ q. absurd (omega arith); other = λ q. refl }

  told-letter : (ps : List ℕ) (ls : List Literal) (ws : List Write) → CameNode P c k ps ls ws → Told P c k (newest ps)
  unfolding CameNode LetterNode Node
  told-letter [] ls ws d = told-other 0 d.0 (omega arith)
  told-letter (p ∷ ps) ls ws (n, l, e, d) = record { inside = n.1; came = λ q. ap some (sym e); other = λ q. absurd (q n.2) }

  pub told-node : (e : Exp) → Denotes P c k e → Told P c k (single e)
  unfolding Denotes single
  told-node (letter l) d = told-letter l.through l.literals l.writes d
  told-node (seq e f) d = told-other 1 d.0 (omega arith)
  told-node (alt e f) d = told-other 2 d.0 (omega arith)
  told-node (star e) d = told-other 3 d.0 (omega arith)
  told-node (pipe e f) d = told-other 4 d.0 (omega arith)

module _ (text P : List ℕ) (h pos : ℕ) (t : Seen) (sees : Sees text pos t) (f cell : ℕ) (pick : Picks text P h t 3 f cell) where
  pub single-unknown : (f ≡ 0 → ⊥) → (n : ℕ) → SingleRead text P h pos f t.place n
  unfolding SingleRead Picks step
  single-unknown z n =
      faulted z (λ c ns k. on_step text pos t sees ns limit_name _ (ill (pick c ns k) z _ _ _ _ (only-productions text P h pos t sees f cell pick _)))

  -- the node of the production
  module _ (z : f ≡ 0) (node : ℕ) (is : node ≡ part0 (at P (cell + 1))) where
    told_at : (c : ℕ) (e : Exp) → Denotes P c (part0 (at P (cell + 1))) e → Told P c node (single e)
    told_at c e d = told-node P c node e (subst (λ (k : ℕ). Denotes P c k e) (sym is) d)

    pub single-inside : SomeNames text P h → node < length P
    single-inside d = let (c, e, l, st, q) = declares_production text P h pos t sees f cell pick z d in omega (arith, (told_at c e st.node).inside)

    -- the name leads to what the node says
    leads : (c : ℕ) (ns : Names) → Cells text P c h ns.declared → (o : Option ℕ) → ((p : Option ℕ) → Told P c node p → p ≡ o) → step ns limit_name (seen text t) ≡ of_single ns (seen text t) o
    unfolding step
    leads c ns k o same =
        let (e, st, q, on) = the-production text P h pos t sees f cell pick z c ns k in
        on _ _ _ _ ∙ ap (of_single ns (seen text t)) (same (single e) (told_at c e st.node))

    module _ (kind : ℕ) (of : kind ≡ part0 (at P node)) where
      pub single-not : (kind ≡ 5 → ⊥) → (n : ℕ) → SingleRead text P h pos 22 t.place n
      unfolding SingleRead seen at_token
      single-not m n = faulted (λ y. omega arith) (λ c ns k. on_step text pos t sees ns limit_name _ (leads c ns k none (λ p w. w.other (λ q. m (of ∙ q)))))

      pub single-read : SomeNames text P h → kind ≡ 5 → (n : ℕ) → n ≡ part2 (at P node) → SingleRead text P h pos 0 t.after n
      unfolding SingleRead
      single-read d m n e =
          let (c, x, l, st, q) = declares_production text P h pos t sees f cell pick z d in
          fine refl (
            past text pos t sees q tt,
            λ c ns k. on_step text pos t sees ns limit_name _ (leads c ns k (some n) (λ p w. w.came (sym of ∙ m) ∙ ap some (sym e))),
          )

-- ---- a number of ticks

module _ (text : List ℕ) (pos f a : ℕ) (w : token.Word) (word : Behind text pos f a (keyword w)) (least most : ℕ) where
  pub ticks-no-word : (f ≡ 0 → ⊥) → (n : ℕ) → TicksRead text pos w least most f a n
  unfolding TicksRead Behind
  ticks-no-word b n = faulted b (λ ns x then r. ill word b ns x)

  module _ (z : f ≡ 0) (t : Seen) (sees : Sees text a t) where
    on_word : (ns : Names) (x : Expect) → read_from text pos ns (keyword w x) ≡ read_from text a ns x
    unfolding Behind
    on_word ns x = (well word z).1 ns x

    pub ticks-no-number : ((v : ℕ) → t.kind ≡ kind.Number v → ⊥) → (n : ℕ) → TicksRead text pos w least most (fault_of t.kind) t.place n
    unfolding TicksRead seen
    ticks-no-number q n =
        faulted (faults text a t sees) (λ ns x then r. on_word ns x ∙ on_step text a t sees ns x _ (r.numeric _ ∙ (no_number text a t sees q _).0))

    module _ (v : ℕ) (q : t.kind ≡ kind.Number v) where
      on-ticks : (ns : Names) (x : Expect) (then : ℕ → Expect) (r : Between ns x least most then)
          → step ns x (seen text t) ≡ unless (r.wrong v) stretch (seen text t) (go ns (then v))
      unfolding on_number if_number
      on-ticks ns x then r =
          r.numeric _ ∙ ap (λ (u : Placed). on_number u (λ n. unless (r.wrong n) stretch (seen text t) (go ns (then n)))) (number_is text a t sees q)

      ticks-wrong : ((ns : Names) (x : Expect) (then : ℕ → Expect) (r : Between ns x least most then) → r.wrong v ≡ true) → (n : ℕ) → TicksRead text pos w least most 21 t.place n
      unfolding TicksRead seen
      ticks-wrong e n =
          faulted (λ y. omega arith) (λ ns x then r.
          on_word ns x ∙ on_step text a t sees ns x _ (on-ticks ns x then r ∙ wrong _ _ _ _ (e ns x then r)))

      pub ticks-small : v < least → (n : ℕ) → TicksRead text pos w least most 21 t.place n
      ticks-small l = ticks-wrong (λ ns x then r. r.small v l)

      pub ticks-large : most < v → (n : ℕ) → TicksRead text pos w least most 21 t.place n
      ticks-large l = ticks-wrong (λ ns x then r. r.large v l)

      pub ticks-read : least ≤ v → v ≤ most → TicksRead text pos w least most 0 t.after v
      unfolding TicksRead
      ticks-read l m =
          let b = behind-past text pos f a (keyword w) word z in
          let p = past text a t sees q tt in
          fine refl (record {
            past = (omega arith, p.1);
            low = l;
            high = m;
            leads = λ ns x then r. on_word ns x ∙ on_step text a t sees ns x _ (on-ticks ns x then r ∙ right _ _ _ _ (r.inside v l m));
          })

-- ---- the whole limit

-- the two numbers; G22: n is at most 1,023, and w above n and at most 1,024
between-most : (ns : Names) (p : ℕ) → Between ns (limit_most p) 0 1023 (λ n. keyword token.inside (limit_window p n))
unfolding step
between-most ns p =
    record {
      wrong = ltb 1023;
      numeric = λ t. refl;
      small = λ n l. absurd (omega arith);
      large = λ n l. lt-ltb 1023 n l;
      inside = λ n l m. le-ltb 1023 n m;
    }

between-window : (ns : Names) (p n : ℕ) → Between ns (limit_window p n) (n + 1) 1024 (λ w. closing (new_limit p n w))
unfolding step
between-window ns p n =
    record {
      wrong = λ w. leb w n || ltb 1024 w;
      numeric = λ t. refl;
      small = λ w l. ap (λ (b : Bool). b || ltb 1024 w) (le-leb w n (omega arith));
      large = λ w l. or_right (leb w n) (ltb 1024 w) (lt-ltb 1024 w l);
      inside = λ w l m. ap (λ (b : Bool). b || ltb 1024 w) (lt-leb w n (omega arith)) ∙ le-ltb 1024 w m;
    }

module _ (text P : List ℕ) (h pos f a p : ℕ) (name : SingleRead text P h pos f a p) where
  pub limit-no-name : (f ≡ 0 → ⊥) → (word : ℕ) → LimitRead text P h pos f a word
  unfolding LimitRead SingleRead
  limit-no-name b word = faulted b (ill name b)

  module _ (z : f ≡ 0) (g b n : ℕ) (most : TicksRead text a token.to 0 1023 g b n) where
    behind-name : (c : ℕ) (ns : Names) → Cells text P c h ns.declared → read_from text pos ns limit_name ≡ read_from text a ns (keyword token.to (limit_most p))
    unfolding SingleRead
    behind-name c ns k = (well name z).1 c ns k

    pub limit-no-most : (g ≡ 0 → ⊥) → (word : ℕ) → LimitRead text P h pos g b word
    unfolding LimitRead TicksRead
    limit-no-most o word = faulted o (λ c ns k. behind-name c ns k ∙ ill most o ns _ _ (between-most ns p))

    module _ (y : g ≡ 0) where
      most-at : TicksAt text a token.to 0 1023 b n
      unfolding TicksRead
      most-at = well most y

      pub most-few : n ≤ 1023
      most-few = most-at.high

      module _ (i d w : ℕ) (window : TicksRead text b token.inside (n + 1) 1024 i d w) where
        behind-most : (c : ℕ) (ns : Names) → Cells text P c h ns.declared → read_from text pos ns limit_name ≡ read_from text b ns (keyword token.inside (limit_window p n))
        behind-most c ns k = behind-name c ns k ∙ most-at.leads ns _ _ (between-most ns p)

        pub limit-no-window : (i ≡ 0 → ⊥) → (word : ℕ) → LimitRead text P h pos i d word
        unfolding LimitRead TicksRead
        limit-no-window o word = faulted o (λ c ns k. behind-most c ns k ∙ ill window o ns _ _ (between-window ns p n))

        module _ (x : i ≡ 0) where
          window-at : TicksAt text b token.inside (n + 1) 1024 d w
          unfolding TicksRead
          window-at = well window x

          behind-window : (c : ℕ) (ns : Names) → Cells text P c h ns.declared → read_from text pos ns limit_name ≡ read_from text d (declare (new_limit p n w) ns) (sign 0 statement)
          unfolding step
          behind-window c ns k = behind-most c ns k ∙ window-at.leads ns _ _ (between-window ns p n) ∙ signed text d ns _ _ _ 0 (λ t. refl)

          pub limit-read : (j e : ℕ) → Behind text d j e (sign 0) → LimitRead text P h pos j e (quad p n w 0)
          unfolding LimitRead SingleRead Behind
          limit-read j e (fine o (l, on)) =
              let u = (well name z).0 in
              fine o (record {
                limit = record { production = p; most = n; window = w };
                is = refl;
                past = (omega (arith, u, most-at.past, window-at.past), l.1);
                reads = λ c ns k. behind-window c ns k ∙ on _ _;
              })
          limit-read j e (faulted o on) = faulted o (λ c ns k. behind-window c ns k ∙ on _ _)

-- ---- what is known then

-- the scope with a limit more
abbrev pub with_limit : Scope → Scope
with_limit scope = record { last = scope.last; count = scope.count; wires = scope.wires; stores = scope.stores; limits = scope.limits + 1 }

limits-known : (text P S : List ℕ) (c : ℕ) (scope : Scope) (ns : Names) (l : Limit) (w : ℕ) → w ≡ limit_word l → scope.limits < 8 → length S ≡ 24 → Known text P S c scope ns
    → Known text P (set S (16 + scope.limits) w) c (with_limit scope) (declare (new_limit l.production l.most l.window) ns)
unfolding declare
limits-known text P S c scope ns l w e free all k =
    record {
      cells = k.cells;
      count = k.count;
      few = k.few;
      wires = k.wires;
      word = k.word;
      stores = k.stores;
      room = k.room;
      values = take-set-le scope.stores S (16 + scope.limits) w (omega (arith, k.room)) ∙ k.values;
      limits = omega (arith, k.limits, length-append ns.limits (l ∷ []));
      few_limits = omega arith;
      bounds = rw (add-one scope.limits)
          (ap (λ (s : List ℕ). take (suc scope.limits) s) (drop-set-add 16 S scope.limits w) ∙ take-suc-set (drop 16 S) scope.limits w (omega (arith, length-drop 16 S))
          ∙ ap₂ (λ (s : List ℕ) (v : ℕ). s ++ (v ∷ [])) k.bounds e ∙ sym (map-append limit_word ns.limits (l ∷ [])));
      low = k.low;
    }

module _ (text P S : List ℕ) (pos c : ℕ) (scope : Scope) (r : Ready text P S pos c scope) (f a word : ℕ) (read : LimitRead text P scope.last pos f a word) where
  pub limit-refused : (f ≡ 0 → ⊥) → Declares text limit_name P S pos c scope (answered f a c scope) P S
  unfolding LimitRead
  limit-refused n = refuse text limit_name P S pos c scope _ n (λ ns k. ill read n c ns k.cells)

  pub limit-declared : f ≡ 0 → scope.limits < 8 → Declares text limit_name P S pos c scope (answered 0 a c (with_limit scope)) P (set S (16 + scope.limits) word)
  unfolding LimitRead
  limit-declared z free =
      let m = well read z in
      record {
        words = refl;
        values = length-set S (16 + scope.limits) word;
        outcome = fine refl (record {
          extends = extends-refl P c;
          spent = record { since = omega (arith, m.past); inside = m.past.1; few = omega (arith, m.past) };
          further = m.past.0;
          reads = λ ns k. (_, limits-known text P S c scope ns m.limit word m.is free r.values k, m.reads c ns k.cells);
        });
      }

-- a refusal is the same whatever stands for the word
pub limit-again : (text P : List ℕ) (h pos f next word other : ℕ) → (f ≡ 0 → ⊥) → LimitRead text P h pos f next word → LimitRead text P h pos f next other
unfolding LimitRead
limit-again text P h pos f next word other n r = faulted n (ill r n)
