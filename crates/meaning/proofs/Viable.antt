-- Reading refuses a text at the right token (numbers 2 to 7, 21 and 22): its first tokens can be followed by others to a text of the grammar exactly if reading them comes to no
-- refusal and names and limits are not in the way of what is expected then (specs/Viable). So with the token that is refused they cannot be, and without it they can, names
-- and limits apart. Assumes nothing.
use mathlib.Core.Path.{◌≡◌, refl, sym, ◌∙◌, ap, subst}
use mathlib.Core.Logic.{◌↔◌}
use mathlib.Core.Bool.{Bool, true, false}
use mathlib.Core.List.{List, [], ◌∷◌, ◌++◌, map, map-append, append-nil, append_assoc}
use Prim.Native.Nat.{ℕ, zero, suc, ◌-◌, ◌≤◌, ◌<◌}
use native.Mathlib.Omega.{arith}
use lib.ListN.{length}
use borrow.Author.Tests.{le-ltb}
use Rattle.lexer.specs.Tokens.{Token, Placed, goes_on, token_at, tokens_from, tokens_at, tokens, rule_words}
use Rattle.lexer.proofs.Sized.{lies}
use Rattle.lexer.proofs.Order.{from_step}
use Rattle.meaning.specs.Answers.{value, refused, byte}
use Rattle.meaning.specs.Reading.{Expect, statement, Step, go, finished, fault, step, and_then, read_on, read}
use Rattle.meaning.specs.Names.{Names, no_names, Program}
use Rattle.meaning.specs.Grammar.{IsText, plain_tokens}
use Rattle.meaning.specs.Viable.{AllSpelled, Viable, Spare, Spared, Ample, feed_on, feed, Refusal}
use Rattle.meaning.proofs.ListLaws.{clash}
use Rattle.meaning.proofs.Outcomes.{Next, Outcome, refusal, late, ended, goes, outcome}
use Rattle.meaning.proofs.Stops.{next-goes-on}
use Rattle.meaning.proofs.Blame.{Blamed, blamed, read_kept}
use Rattle.meaning.proofs.GrammarReads.{derived-read}
use Rattle.meaning.proofs.GrammarDerives.{Derived, next-derived, Ended, read-derived}
use Rattle.meaning.proofs.GrammarExact.{ended as text-ended}
use Rattle.meaning.proofs.Sound.{Sound, next-sound, none-sound}
use Rattle.meaning.proofs.Finish
use Rattle.meaning.proofs.Finish.{Finish, tokens_of, all-spelled, finish}
use Rattle.meaning.proofs.Spared.{read-spare, ample}

-- ---- along the tokens that are read

-- what each token keeps, of what is expected and of the tokens to come
module _ (Kept : Names → Expect → List Token → Type 0)
    (on : (ns ms : Names) (place : ℕ) (u : Token) (x y : Expect) (us : List Token) → Next ns place u x ms y → Kept ns x (u ∷ us) → Kept ms y us) where
  along : (ps : List Placed) (us : List Token) (ns ms : Names) (x y : Expect) → feed ns x ps ≡ go ms y → Kept ns x (plain_tokens ps ++ us) → Kept ms y us
  unfolding feed
  along [] us ns ms x y e k = let f : ns ≡ ms = cc in let g : x ≡ y = cc in rw (← f, ← g) k
  along (t ∷ ps) us ns ms x y e k = by (outcome ns t x) k (λ ls z. along ps us ls ms z y) e
    where
      by : {x : Expect} {s : Step} → Outcome ns t x s → Kept ns x (t.token ∷ (plain_tokens ps ++ us))
          → ((ls : Names) (z : Expect) → feed ls z ps ≡ go ms y → Kept ls z (plain_tokens ps ++ us) → Kept ms y us)
          → feed_on s (λ ls z. feed ls z ps) ≡ go ms y → Kept ms y us
      by refusal k f e = clash (cc)
      by late k f e = clash (cc)
      by (ended h) k f e = clash (cc)
      by {x} (goes {y = z} {ms = ls} h n) k f e = f ls z e (on _ _ _ _ _ _ _ n (subst (λ (u : Token). Kept ns x (u ∷ (plain_tokens ps ++ us))) h k))

-- behind what is read on, reading goes on
read-on : (ps us : List Placed) (ns : Names) (x : Expect) → read_on ns x (ps ++ us) ≡ and_then (feed ns x ps) (λ ms y. read_on ms y us)
unfolding feed read_on
read-on [] us ns x = refl
read-on (t ∷ ps) us ns x = by (step ns x t) (λ ms y. read-on ps us ms y)
  where
    by : (s : Step) → ((ms : Names) (y : Expect) → read_on ms y (ps ++ us) ≡ and_then (feed ms y ps) (λ ls z. read_on ls z us))
        → and_then s (λ ms y. read_on ms y (ps ++ us)) ≡ and_then (feed_on s (λ ms y. feed ms y ps)) (λ ls z. read_on ls z us)
    by (go ms y) f = f ms y
    by (finished p) f = refl
    by (fault n q) f = refl

-- a token behind what is read on is judged next
feed-on : (ps : List Placed) (t : Placed) (ns ms : Names) (x y : Expect) → feed ns x ps ≡ go ms y → feed ns x (ps ++ (t ∷ [])) ≡ step ms y t
unfolding feed
feed-on [] t ns ms x y e = let f : ns ≡ ms = cc in let g : x ≡ y = cc in rw (f, g) (by (step ms y t))
  where
    by : (s : Step) → feed_on s (λ ls z. go ls z) ≡ s
    by (go ls z) = refl
    by (finished p) = refl
    by (fault n q) = refl
feed-on (r ∷ ps) t ns ms x y e = by (step ns x r) e (λ ls z. feed-on ps t ls ms z y)
  where
    by : (s : Step) → feed_on s (λ ls z. feed ls z ps) ≡ go ms y → ((ls : Names) (z : Expect) → feed ls z ps ≡ go ms y → feed ls z (ps ++ (t ∷ [])) ≡ step ms y t)
        → feed_on s (λ ls z. feed ls z (ps ++ (t ∷ []))) ≡ step ms y t
    by (go ls z) e f = f ls z e
    by (finished p) e f = clash (cc)
    by (fault n q) e f = clash (cc)

-- ---- what can follow

-- tokens, placed anywhere
placed : List Token → List Placed
placed us = map (λ u. record { token = u; place = 0; after = 0 }) us

plain-placed : (us : List Token) → plain_tokens (placed us) ≡ us
unfolding placed
plain-placed [] = refl
plain-placed (u ∷ us) = ap (λ (vs : List Token). u ∷ vs) (plain-placed us)

module _ (ps : List Placed) (spelled : AllSpelled (plain_tokens ps)) where
  sound : (ns : Names) (x : Expect) → feed no_names statement ps ≡ go ns x → Sound ns x
  sound ns x e =
      (along (λ ns x us. AllSpelled us × Sound ns x) (λ ns ms place u x y us n ((t, l), g). (l, next-sound n t g)) ps [] no_names ns statement x e
      (rw append-nil spelled, none-sound)).1

  -- names and limits are not in the way of what becomes a text
  needed : (s : Step) → feed no_names statement ps ≡ s → Viable (plain_tokens ps) → Spared s
  needed s e (us, l, p, t) = by s e (read ∙ derived-read (ps ++ placed us) (subst (λ (ts : List Token). IsText no_names ts p) (sym plain) t))
    where
      plain : plain_tokens (ps ++ placed us) ≡ plain_tokens ps ++ us
      plain = map-append (λ (t : Placed). t.token) ps (placed us) ∙ ap (λ (vs : List Token). plain_tokens ps ++ vs) (plain-placed us)

      read : and_then s (λ ns x. read_on ns x (placed us)) ≡ read_on no_names statement (ps ++ placed us)
      read = ap (λ (s : Step). and_then s (λ ns x. read_on ns x (placed us))) (sym e) ∙ sym (read-on ps (placed us) no_names statement)

      by : (s : Step) → feed no_names statement ps ≡ s → and_then s (λ ns x. read_on ns x (placed us)) ≡ value p → Spared s
      by (go ns x) e f = read-spare (placed us) ns x p (subst AllSpelled (sym (plain-placed us)) l) (sound ns x e) f
      by (finished r) e f = tt
      by (fault number place) e f = clash (cc)

  -- and where they are not, there is an end
  end_of : (ns : Names) (x : Expect) → feed no_names statement ps ≡ go ns x → Spare ns x → (f : Finish ns x) × (p : Program) × IsText no_names (plain_tokens ps ++ tokens_of f) p
  end_of ns x e k =
      let g = sound ns x e in
      let f = finish ns g.0 x g.1 k in
      let T = plain_tokens ps ++ tokens_of f in
      let (p, t) = Finish.finished T f (along (Derived T) (λ ns ms place u x y us n k. next-derived T ns us n k) ps (tokens_of f) no_names ns statement x e (λ p t. t)) in
      (f, p, t)

  enough : Ended ps → (s : Step) → feed no_names statement ps ≡ s → Spared s → Viable (plain_tokens ps)
  enough h (go ns x) e k = let (f, p, t) = end_of ns x e k in (tokens_of f, all-spelled f, p, t)
  enough h (finished p) e k =
      let f : read_on no_names statement (ps ++ []) ≡ value p = read-on ps [] no_names statement ∙ ap (λ (s : Step). and_then s (λ ns x. read_on ns x [])) e in
      ([], tt, p, rw append-nil (read-derived ps p h (rw append-nil at f)))
  enough h (fault number place) e k = absurd k

-- ---- the tokens of a text

spelled-from : (k : ℕ) (s : List ℕ) (at : ℕ) → AllSpelled (plain_tokens (tokens_from rule_words k s at))
unfolding tokens_from
spelled-from zero s at = tt
spelled-from (suc k) s at = ((s, at, refl), by (goes_on (token_at rule_words s at).token) (spelled-from k s (token_at rule_words s at).after))
  where
    by : (b : Bool) → AllSpelled (plain_tokens (tokens_from rule_words k s (token_at rule_words s at).after))
        → AllSpelled (plain_tokens (elim b [ true ↦ tokens_from rule_words k s (token_at rule_words s at).after | false ↦ [] ]))
    by true l = l
    by false l = tt

spelled-in : (text : List ℕ) → AllSpelled (plain_tokens (tokens rule_words text))
unfolding tokens_at
spelled-in text = spelled-from _ text 0

-- the last is the end or a knot
abbrev Halted : List Token → Type 0
Halted [] = ⊥
Halted (u ∷ us) = goes_on u ≡ true → Halted us

halted-from : (k : ℕ) (s : List ℕ) (at : ℕ) → length s - at < k → Halted (plain_tokens (tokens_from rule_words k s at))
halted-from zero s at h = absurd (omega arith)
halted-from (suc k) s at h = rw (from_step rule_words k s at) (λ g. rw g (halted-from k s (token_at rule_words s at).after (omega (arith, (lies rule_words s at).grows g, (lies rule_words s at).high))))

module _ (us : List Placed) where
  spelled-before : (ps : List Placed) → AllSpelled (plain_tokens (ps ++ us)) → AllSpelled (plain_tokens ps)
  spelled-before [] l = tt
  spelled-before (t ∷ ps) (k, l) = (k, spelled-before ps l)

  -- what can be followed can be followed from before: first by what was there
  spelled-behind : (ps : List Placed) (vs : List Token) → AllSpelled (plain_tokens (ps ++ us)) → AllSpelled vs → AllSpelled (plain_tokens us ++ vs)
  spelled-behind [] vs l k = joined us l
    where
      joined : (us : List Placed) → AllSpelled (plain_tokens us) → AllSpelled (plain_tokens us ++ vs)
      joined [] l = k
      joined (t ∷ us) (h, l) = (h, joined us l)
  spelled-behind (t ∷ ps) vs (h, l) k = spelled-behind ps vs l k

  viable-shorter : (ps : List Placed) → AllSpelled (plain_tokens (ps ++ us)) → Viable (plain_tokens (ps ++ us)) → Viable (plain_tokens ps)
  viable-shorter ps l (vs, k, p, x) =
      let e : plain_tokens (ps ++ us) ++ vs ≡ plain_tokens ps ++ (plain_tokens us ++ vs) =
      ap (λ (ts : List Token). ts ++ vs) (map-append (λ (t : Placed). t.token) ps us) ∙ append_assoc (plain_tokens ps) (plain_tokens us) vs in
      (plain_tokens us ++ vs, spelled-behind ps vs l k, p, subst (λ (ts : List Token). IsText no_names ts p) e x)

  ended-before : (ps : List Placed) → Ended (ps ++ us) → Ended ps
  ended-before [] l = tt
  ended-before (t ∷ ps) (k, l) = (λ e. none ps (k e), ended-before ps l)
    where
      none : (ps : List Placed) → plain_tokens (ps ++ us) ≡ [] → plain_tokens ps ≡ []
      none [] e = refl
      none (q ∷ ps) e = clash (cc)

spelled-first : (text : List ℕ) (ps us : List Placed) → tokens rule_words text ≡ ps ++ us → AllSpelled (plain_tokens ps)
spelled-first text ps us e = spelled-before us ps (rw e at (spelled-in text))

-- The first tokens of a text can be followed by others to a text of the grammar exactly if reading them comes to no refusal, and names and limits are not in the way then.
pub viable-exactly : (text : List ℕ) (ps us : List Placed) → tokens rule_words text ≡ ps ++ us → Viable (plain_tokens ps) ↔ Spared (feed no_names statement ps)
viable-exactly text ps us e =
    let l = spelled-first text ps us e in
    (needed ps l _ refl, enough ps l (ended-before us ps (rw e at (text-ended text))) _ refl)

-- the tokens to the end, where names and limits are not in the way
pub ending : (text : List ℕ) (ps us : List Placed) → tokens rule_words text ≡ ps ++ us → (ns : Names) (x : Expect) → feed no_names statement ps ≡ go ns x → Spare ns x
    → (f : Finish ns x) × (p : Program) × IsText no_names (plain_tokens ps ++ tokens_of f) p
ending text ps us e = end_of ps (spelled-first text ps us e)

-- A token behind those that are read on leaves them so exactly if it is not refused, and names and limits are not in the way behind it.
pub judged-exactly : (text : List ℕ) (ps : List Placed) (t : Placed) (us : List Placed) → tokens rule_words text ≡ ps ++ (t ∷ us)
    → (ns : Names) (x : Expect) → feed no_names statement ps ≡ go ns x → Viable (plain_tokens (ps ++ (t ∷ []))) ↔ Spared (step ns x t)
judged-exactly text ps t us s ns x e =
    rw (feed-on ps t no_names ns statement x e) at (viable-exactly text (ps ++ (t ∷ [])) us (s ∙ sym (append_assoc ps (t ∷ []) us)))

-- ---- the token that is refused

module _ (text : List ℕ) (number place : ℕ) where
  -- t is refused behind ps
  refuses : (ps : List Placed) (t : Placed) (us : List Placed) (ns : Names) (x : Expect) → tokens rule_words text ≡ ps ++ (t ∷ us) → feed no_names statement ps ≡ go ns x
      → step ns x t ≡ fault number place → Refusal text number place
  refuses ps t us ns x s e f =
      record {
        before = ps;
        at = t;
        behind = us;
        splits = s;
        names = ns;
        expects = x;
        reads = e;
        judged = f;
        blames = subst (Blamed t x) f (blamed ns x t);
        unviable_with = λ v. subst Spared f ((judged-exactly text ps t us s ns x e).0 v);
        viable_before = rw e at (viable-exactly text ps (t ∷ us) s);
      }

  -- one of ts is, behind ps
  refuses-in : (ts ps : List Placed) (ns : Names) (x : Expect) → Halted (plain_tokens ts) → tokens rule_words text ≡ ps ++ ts → feed no_names statement ps ≡ go ns x
      → read_on ns x ts ≡ refused number (byte place) → Refusal text number place
  unfolding read_on
  refuses-in [] ps ns x h s e f = absurd h
  refuses-in (t ∷ ts) ps ns x h s e f =
      by x (step ns x t) refl (outcome ns t x)
      (λ ms y g k. refuses-in ts (ps ++ (t ∷ [])) ms y (h g) (s ∙ sym (append_assoc ps (t ∷ []) ts)) (feed-on ps t no_names ns statement x e ∙ k)) f
    where
      by : (z : Expect) (r : Step) → step ns x t ≡ r → Outcome ns t z r
          → ((ms : Names) (y : Expect) → goes_on t.token ≡ true → step ns x t ≡ go ms y → read_on ms y ts ≡ refused number (byte place) → Refusal text number place)
          → and_then r (λ ms y. read_on ms y ts) ≡ refused number (byte place) → Refusal text number place
      by z (go ms y) k (goes {u} g n) rest f = rest ms y (rw g (next-goes-on n)) k f
      by z (finished p) k o rest f = clash (cc)
      by z (fault m q) k o rest f = let a : fault m q ≡ fault number place = cc in refuses ps t ts ns x s e (k ∙ a)

-- A text that is not overlong is refused exactly so.
pub refused-exactly : (text : List ℕ) (number place : ℕ) → length text ≤ 16384 → (read text ≡ refused number (byte place)) ↔ Refusal text number place
unfolding read feed tokens_at
refused-exactly text number place h = (
  λ e. refuses-in text number place (tokens rule_words text) [] no_names statement (halted-from _ text 0 (omega arith)) refl refl (rw (le-ltb 16384 (length text) h) at e),
  λ r. read_kept text (r.before ++ (r.at ∷ [])) r.behind number place h (r.splits ∙ sym (append_assoc r.before (r.at ∷ []) r.behind))
      (feed-on r.before r.at no_names r.names statement r.expects r.reads ∙ r.judged),
)

-- So where there is enough of all, it is the first token with which the text cannot become one: whatever of it stands before that token could be followed.
pub first-unviable : {text : List ℕ} {number place : ℕ} (r : Refusal text number place) → Ample r.names r.expects
    → ((ps us : List Placed) → r.before ≡ ps ++ us → Viable (plain_tokens ps)) × (Viable (plain_tokens (r.before ++ (r.at ∷ []))) → ⊥)
first-unviable {text} r a =
    let l = spelled-first text r.before (r.at ∷ r.behind) r.splits in
    (λ ps us e. viable-shorter us ps (rw e at l) (rw e at (r.viable_before.1 (ample r.expects a))), r.unviable_with)
