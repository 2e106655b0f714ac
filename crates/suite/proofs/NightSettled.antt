-- A night is settled: over words that are one grammar, whatever buffers each call was lent and whatever stands behind the table,
-- two nights of as many handouts have handed out the same, and two that are over have handed out as many. The target of a call is
-- the lowest rule that none before has used, and its tree has one listing. Assumes nothing.
use Prim.Native.Nat.{ℕ, suc, ◌≤◌, ◌<◌}
use native.Mathlib.Omega.{arith}
use native.Mathlib.Decide.{dec_lt}
use mathlib.Core.Path.{◌≡◌, refl, sym, ap, ◌∙◌, subst}
use mathlib.Core.List.{List, ◌∷◌}
use lib.ListN.{length, take}
use Rattle.grammar.specs.Words.{Grammar, layout, reads}
use Rattle.grammar.specs.Tree.{Tree, sentence, derivation}
use Rattle.grammar.specs.Terms.{measure}
use Rattle.grammar.specs.Least.{TreeOf}
use Rattle.grammar.proofs.LayoutExact.{reads_unique}
use Rattle.grammar.proofs.Main.{tree_of_same}
use Rattle.handout.specs.Next.{Lent, NextPromise}
use Rattle.handout.specs.Night.{Handout, handout, Night, clear, later, Over, Proper}
use Rattle.handout.specs.declared.NextAnswer.TheVariants.{Next}
use Rattle.handout.proofs.Main.{next_writes, night_proper, all_used}
use Rattle.suite.proofs.LinesFit.{first_proper}

-- t and ks are the listing of the tree of r
record Listed (g : Grammar) (r : ℕ) (t ks : List ℕ) : Type 0 where
  tree : Tree g g.start
  is : TreeOf measure g r tree
  says : t ≡ sentence tree
  lists : ks ≡ derivation tree

module _ {g : Grammar} {r : ℕ} {t t' ks ks' : List ℕ} (a : Listed g r t ks) (b : Listed g r t' ks') where
  listed_same : handout r t ks ≡ handout r t' ks'
  listed_same =
      let same = tree_of_same measure a.is b.is in
      let s : t ≡ t' = a.says ∙ same.0 ∙ sym b.says in
      let d : ks ≡ ks' = a.lists ∙ same.1 ∙ sym b.lists in
      rw (s, d) refl

target_same : {g : Grammar} {hs : List Handout} {r r' : ℕ} {t t' ks ks' : List ℕ} → Proper g hs r t ks → Proper g hs r' t' ks' →
    r ≡ r'
target_same {r = r} {r' = r'} p q = go (dec_lt r r') (dec_lt r' r)
  where
    go : Dec (r < r') → Dec (r' < r) → r ≡ r'
    go (yes l) d = absurd (p.new (q.lowest r l))
    go (no l) (yes k) = absurd (q.new (p.lowest r' k))
    go (no l) (no k) = omega arith

one_more : {g : Grammar} {hs hs' : List Handout} {r r' : ℕ} {t t' ks ks' : List ℕ} → hs ≡ hs' → Proper g hs r t ks → Listed g r t ks →
    Proper g hs' r' t' ks' → Listed g r' t' ks' → handout r t ks ∷ hs ≡ handout r' t' ks' ∷ hs'
one_more {r = r} {r' = r'} {t = t} {t' = t'} {ks = ks} {ks' = ks'} same p a q b =
    let target : r ≡ r' = target_same p (rw (sym same) at q) in
    let one : handout r t ks ≡ handout r' t' ks' = go target a b in
    rw (one, same) refl
  where
    go : {g : Grammar} {r r' : ℕ} {t t' ks ks' : List ℕ} → r ≡ r' → Listed g r t ks → Listed g r' t' ks' →
        handout r t ks ≡ handout r' t' ks'
    go {r' = r'} {t = t} {ks = ks} is a b = ap (λ (k : ℕ). handout k t ks) is ∙ listed_same (rw is at a) b

module _ {words : List ℕ} {g : Grammar} (e : layout words ≡ reads g) where
  listed : {table : List ℕ} {before after : Lent} {r n m : ℕ} → NextPromise words table before (Next r n m) after →
      Listed g r (take n after.tokens) (take m after.rules)
  listed {after = after} {r = r} {n = n} {m = m} p =
      let (k, read, h) = next_writes p r n m refl in
      subst (λ (j : Grammar). Listed j r (take n after.tokens) (take m after.rules)) (reads_unique words read e)
      (record { tree = h.t; is = h.wanted.tree; says = h.tokens.front; lists = h.rules.front })

  night_same : {table table' marks marks' : List ℕ} {hs hs' : List Handout} → Night words table hs marks →
      Night words table' hs' marks' → length hs ≡ length hs' → hs ≡ hs'
  night_same (clear f z) (clear f' z') l = refl
  night_same (clear f z) (later night p) l = absurd (omega arith)
  night_same (later night p) (clear f z) l = absurd (omega arith)
  night_same (later night p) (later night' p') l =
      one_more (night_same night night' (omega arith)) (first_proper (night_proper e (later night p))) (listed p)
      (first_proper (night_proper e (later night' p'))) (listed p')

  not_longer : {table table' marks : List ℕ} {hs hs' : List Handout} → Over words table hs → Night words table' hs' marks →
      length hs' ≤ length hs
  not_longer o (clear f z) = omega arith
  not_longer {hs = hs} o (later {handed = handed} night p) =
      go (dec_lt (length handed) (length hs)) (not_longer o night) (first_proper (night_proper e (later night p)))
    where
      go : {r : ℕ} {t ks : List ℕ} → Dec (length handed < length hs) → length handed ≤ length hs → Proper g handed r t ks →
          suc (length handed) ≤ length hs
      go (yes l) k proper = l
      go {r} (no l) k proper =
          let same : handed ≡ hs = night_same night o.night (omega arith) in
          absurd (proper.new (rw same (all_used e o r proper.rule)))

  -- SETTLED: two nights that are over have handed out the same
  pub night_settles : {table table' : List ℕ} {hs hs' : List Handout} → Over words table hs → Over words table' hs' → hs ≡ hs'
  night_settles o o' =
      let l = not_longer o o'.night in
      let k = not_longer o' o.night in
      night_same o.night o'.night (omega arith)
