-- `layout` reads a grammar's words as that grammar, and nothing else as one. So an accepted grammar is within the layout's
-- bounds, and what is proved of grammars within bounds holds of all that the program accepts.
-- There: by induction on the rules, and in each on its symbols: every test passes, and the rest is read. Back: each of the
-- layout's readers that reads something passed its test and read the rest; what the rest is is known by induction on the words,
-- and the word in hand is put in front of it.
-- Assumes nothing.
use mathlib.Core.Path.{◌≡◌, refl, ap, sym, ◌∙◌}
use mathlib.Core.Bool.{Bool, true, false, ◌&&◌, and-eq-true_iff}
use mathlib.Core.Logic.{◌↔◌}
use mathlib.Core.List.{List, [], ◌∷◌, ◌++◌}
use mathlib.Core.Option.{some}
use Prim.Native.Nat.{ℕ, zero, suc, ◌+◌, ◌≤◌, ◌<◌}
use native.Mathlib.Omega.{arith}
use lib.Dec.{ltb, leb}
use lib.ListN.{length, get_elem?}
use borrow.Author.Tests.{ltb-true, leb-true, lt-ltb, le-leb}
use Rattle.grammar.specs.Words.{Grammar, Rule, ◌⟶◌, R, RuleAt, Judged, reads, faults, test, Body, body, no_symbol, All}
use Rattle.grammar.specs.Words.{InBounds, RuleOk, RulesOk, rule_words, rules_words, words}
use Rattle.grammar.specs.Words.{with_symbol, with_left, with_head, lefts, counts, symbols, layout}
use Rattle.grammar.proofs.ConstructorsDiffer.{faults_not_reads}
use Rattle.grammar.proofs.RuleNumbers.{rule_number}
pub use Rattle.grammar.proofs.RuleNumbers.{rule_below}

module _ (N T : ℕ) where
  -- the symbols of a right side are read, where the rules after it are, wherever these begin
  symbols_words : (s : ℕ) (w ws : List ℕ) (p room : ℕ) (rs : List Rule) → s < N + T → All (λ s. s < N + T) w →
      ((q : ℕ) → lefts ws q room N T ≡ reads rs) → symbols (s ∷ w ++ ws) (length w) p room N T ≡ reads (body (s ∷ w) rs)
  unfolding lefts
  symbols_words s [] ws p room rs h f after = rw (lt-ltb s (N + T) h, after (suc p))
  symbols_words s (u ∷ w) ws p room rs h f after =
      rw (lt-ltb s (N + T) h, symbols_words u w ws (suc p) room rs f.0 f.1 after)

  lefts_words : (rs : List Rule) (p room : ℕ) → RulesOk N T rs → length rs ≤ room → lefts (rules_words rs) p room N T ≡ reads rs
  unfolding lefts
  lefts_words [] p room h l = refl
  lefts_words (ρ ∷ rs) p zero h l = absurd (omega arith)
  lefts_words ((A ⟶ w) ∷ rs) p (suc room) h l = go w h.0 (λ q. lefts_words rs q room h.1 (omega arith))
    where
      go : (w : List ℕ) → RuleOk N T (A ⟶ w) → ((q : ℕ) → lefts (rules_words rs) q room N T ≡ reads rs) →
          lefts (rule_words (A ⟶ w) ++ rules_words rs) p (suc room) N T ≡ reads ((A ⟶ w) ∷ rs)
      go [] z after = rw (lt-ltb A N z.0, after (suc (suc p)))
      go (s ∷ w) z after =
          let few = z.1 in
          let body-Reads = symbols_words s w (rules_words rs) (suc (suc p)) room rs z.2.0 z.2.1 after in
          rw (lt-ltb A N z.0, lt-ltb (length w) 32 (omega arith), body-Reads)

layout-words : (g : Grammar) → InBounds g → layout (words g) ≡ reads g
unfolding layout
layout-words g h =
    rw (
      lt-ltb 0 g.N h.some_nonterminal,
      le-leb g.N 128 h.nonterminals,
      le-leb g.T 1024 h.terminals,
      lt-ltb g.start g.N h.start_below,
      lefts_words g.N g.T g.rules 3 256 h.rules_ok h.at_most_256,
    )

-- what a step of the layout read, from that it read
test-reads : {A : Type 0} (b : Bool) (p : ℕ) (r : Judged A) (x : A) → test b p r ≡ reads x → (b ≡ true) × (r ≡ reads x)
test-reads true p r x e = (refl, e)
test-reads false p r x e = absurd (faults_not_reads e)

left_reads : (A : ℕ) (r : Judged Body) (rs : List Rule) → with_left A r ≡ reads rs →
    (w : List ℕ) × (rs' : List Rule) × (r ≡ reads (body w rs')) × (rs ≡ (A ⟶ w) ∷ rs')
left_reads A (reads (body w rs')) rs e = (w, rs', refl, cc)
left_reads A (faults p) rs e = absurd (faults_not_reads e)

symbol_reads : (s : ℕ) (r : Judged Body) (w : List ℕ) (rs : List Rule) → with_symbol s r ≡ reads (body w rs) →
    (u : List ℕ) × (r ≡ reads (body u rs)) × (w ≡ s ∷ u)
symbol_reads s (reads (body u rs')) w rs e = (u, cc, cc)
symbol_reads s (faults p) w rs e = absurd (faults_not_reads e)

none_reads : (r : Judged (List Rule)) (w : List ℕ) (rs : List Rule) → no_symbol r ≡ reads (body w rs) → (r ≡ reads rs) × (w ≡ [])
none_reads (reads rs') w rs e = (cc, cc)
none_reads (faults p) w rs e = absurd (faults_not_reads e)

head_reads : (N T S : ℕ) (r : Judged (List Rule)) (g : Grammar) → with_head N T S r ≡ reads g →
    (rs : List Rule) × (r ≡ reads rs) × (g ≡ record { N = N; T = T; start = S; rules = rs })
head_reads N T S (reads rs) g e = (rs, refl, cc)
head_reads N T S (faults p) g e = absurd (faults_not_reads e)

-- what the words still to come are, once they have been read: as rules, as the symbols of a right side and the rules after it,
-- and as a count with these
module _ (N T : ℕ) where
  record Lefts (ws : List ℕ) (room : ℕ) (rs : List Rule) : Type 0 where
    ok : RulesOk N T rs
    few : length rs ≤ room
    are : ws ≡ rules_words rs

  record Rest (ws : List ℕ) (room : ℕ) (w : List ℕ) (rs : List Rule) : Type 0 where
    ok : All (λ s. s < N + T) w
    after : List ℕ
    rest : Lefts after room rs
    are : ws ≡ w ++ after

  record Counts (ws : List ℕ) (room : ℕ) (w : List ℕ) (rs : List Rule) : Type 0 where
    tail : List ℕ
    long : length w ≤ 32
    body_is : Rest tail room w rs
    are : ws ≡ length w ∷ tail

  lefts_join : {A room : ℕ} {ws w : List ℕ} {rs rs' : List Rule} → A < N → Counts ws room w rs' → rs ≡ (A ⟶ w) ∷ rs' →
      Lefts (A ∷ ws) (suc room) rs
  lefts_join {A} {w = w} h c q = rw q (record {
    ok = ((h, c.long, c.body_is.ok), c.body_is.rest.ok);
    few = let f = c.body_is.rest.few in omega arith;
    are = ap (A ∷◌) (c.are ∙ ap (length w ∷◌) (c.body_is.are ∙ ap (w ++◌) c.body_is.rest.are));
  })

  counts_none : {room : ℕ} {ws w : List ℕ} {rs : List Rule} → Lefts ws room rs → w ≡ [] → Counts (0 ∷ ws) room w rs
  counts_none {ws = ws} l q = rw q (record {
    tail = ws;
    long = omega arith;
    body_is = record { ok = tt; after = ws; rest = l; are = refl };
    are = refl;
  })

  counts_some : {k room : ℕ} {ws w : List ℕ} {rs : List Rule} → k < 32 → Rest ws room w rs × (length w ≡ suc k) →
      Counts (suc k ∷ ws) room w rs
  counts_some {ws = ws} h b =
      let e = b.1 in
      record { tail = ws; long = omega arith; body_is = b.0; are = ap (◌∷ ws) (sym e) }

  body_last : {s room : ℕ} {ws w u : List ℕ} {rs : List Rule} → s < N + T → Lefts ws room rs → w ≡ s ∷ u → u ≡ [] →
      Rest (s ∷ ws) room w rs × (length w ≡ 1)
  body_last {s} {ws = ws} h l q q' = rw (q, q') (record { ok = (h, tt); after = ws; rest = l; are = refl }, refl)

  body_more : {s k room : ℕ} {ws w u : List ℕ} {rs : List Rule} → s < N + T → Rest ws room u rs × (length u ≡ suc k) →
      w ≡ s ∷ u → Rest (s ∷ ws) room w rs × (length w ≡ suc (suc k))
  body_more {s} h (b, long) q =
      rw q (record { ok = (h, b.ok); after = b.after; rest = b.rest; are = ap (s ∷◌) b.are }, ap suc long)

  mutual
    unfolding lefts

    lefts-reads : (ws : List ℕ) (p room : ℕ) (rs : List Rule) → lefts ws p room N T ≡ reads rs → Lefts ws room rs
    lefts-reads [] p room rs e = let q : rs ≡ [] = cc in rw q (record { ok = tt; few = omega arith; are = refl })
    lefts-reads (w ∷ ws) p zero rs e = absurd (faults_not_reads e)
    lefts-reads (w ∷ ws) p (suc room) rs e =
        let t = test-reads (ltb w N) p _ rs e in
        let h = left_reads w (counts ws (suc p) room N T) rs t.1 in
        lefts_join (ltb-true w N t.0) (counts-reads ws (suc p) room h.0 h.1 h.2) h.3

    counts-reads : (ws : List ℕ) (p room : ℕ) (w : List ℕ) (rs : List Rule) → counts ws p room N T ≡ reads (body w rs) →
        Counts ws room w rs
    counts-reads [] p room w rs e = absurd (faults_not_reads e)
    counts-reads (zero ∷ ws) p room w rs e =
        let h = none_reads (lefts ws (suc p) room N T) w rs e in
        counts_none (lefts-reads ws (suc p) room rs h.0) h.1
    counts-reads (suc k ∷ ws) p room w rs e =
        let t = test-reads (ltb k 32) p _ (body w rs) e in
        counts_some (ltb-true k 32 t.0) (symbols-reads ws k (suc p) room w rs t.1)

    symbols-reads : (ws : List ℕ) (k p room : ℕ) (w : List ℕ) (rs : List Rule) → symbols ws k p room N T ≡ reads (body w rs) →
        Rest ws room w rs × (length w ≡ suc k)
    symbols-reads [] k p room w rs e = absurd (faults_not_reads e)
    symbols-reads (s ∷ ws) zero p room w rs e =
        let t = test-reads (ltb s (N + T)) p _ (body w rs) e in
        let x = symbol_reads s (no_symbol (lefts ws (suc p) room N T)) w rs t.1 in
        let n = none_reads (lefts ws (suc p) room N T) x.0 rs x.1 in
        body_last (ltb-true s (N + T) t.0) (lefts-reads ws (suc p) room rs n.0) x.2 n.1
    symbols-reads (s ∷ ws) (suc k) p room w rs e =
        let t = test-reads (ltb s (N + T)) p _ (body w rs) e in
        let x = symbol_reads s (symbols ws k (suc p) room N T) w rs t.1 in
        body_more (ltb-true s (N + T) t.0) (symbols-reads ws k (suc p) room x.0 rs x.1) x.2

layout-reads : (ws : List ℕ) (g : Grammar) → layout ws ≡ reads g → InBounds g × (ws ≡ words g)
unfolding layout
layout-reads [] g e = absurd (faults_not_reads e)
layout-reads (N ∷ []) g e =
    let t = test-reads (ltb 0 N && leb N 128) 0 _ g e in
    absurd (faults_not_reads t.1)
layout-reads (N ∷ T ∷ []) g e =
    let t = test-reads (ltb 0 N && leb N 128) 0 _ g e in
    let u = test-reads (leb T 1024) 1 _ g t.1 in
    absurd (faults_not_reads u.1)
layout-reads (N ∷ T ∷ S ∷ ws) g e =
    let t = test-reads (ltb 0 N && leb N 128) 0 _ g e in
    let u = test-reads (leb T 1024) 1 _ g t.1 in
    let v = test-reads (ltb S N) 2 _ g u.1 in
    let h = head_reads N T S (lefts ws 3 256 N T) g v.1 in
    let n = (and-eq-true_iff (ltb 0 N) (leb N 128)).0 t.0 in
    let l = lefts-reads N T ws 3 256 h.0 h.1 in
    rw h.2 (
      record {
        some_nonterminal = ltb-true 0 N n.0;
        nonterminals = leb-true N 128 n.1;
        terminals = leb-true T 1024 u.0;
        start_below = ltb-true S N v.0;
        at_most_256 = l.few;
        rules_ok = l.ok;
      },
      ap (λ (xs : List ℕ). N ∷ T ∷ S ∷ xs) l.are,
    )

-- EXACT: words are read as g exactly where they are g's words and g is within the layout's bounds
pub layout_exact : (ws : List ℕ) (g : Grammar) → (layout ws ≡ reads g) ↔ (InBounds g × (ws ≡ words g))
layout_exact ws g = (layout-reads ws g, λ h. rw h.1 (layout-words g h.0))

-- a grammar that was read is within bounds
pub in_bounds : (ws : List ℕ) {g : Grammar} → layout ws ≡ reads g → InBounds g
in_bounds ws {g} e = (layout-reads ws g e).0

-- each number below R is a rule's, with symbols in range
pub record Standing (N T : ℕ) (rs : List Rule) (k : ℕ) : Type 0 where
  pub A : ℕ
  pub w : List ℕ
  pub stands : get_elem? rs k ≡ some (A ⟶ w)
  pub ok : RuleOk N T (A ⟶ w)

standing : {N T : ℕ} (rs : List Rule) (k : ℕ) → RulesOk N T rs → k < length rs → Standing N T rs k
standing [] k h l = absurd (omega arith)
standing ((A ⟶ w) ∷ rs) zero h l = record { A = A; w = w; stands = refl; ok = h.0 }
standing (ρ ∷ rs) (suc k) h l =
    let z = standing rs k h.1 (omega arith) in
    record { A = z.A; w = z.w; stands = z.stands; ok = z.ok }

module _ {g : Grammar} (ok : InBounds g) where
  -- each number below R is a rule's, whose symbols are in range and at most 32
  pub rule_at : (k : ℕ) → k < R g → (A : ℕ) × (w : List ℕ) × RuleAt g k A w
  rule_at k l = let z = standing g.rules k ok.rules_ok l in (z.A, z.w, record { stands = z.stands; left = z.ok.0 })

  rule_ok : {k A : ℕ} {w : List ℕ} → RuleAt g k A w → RuleOk g.N g.T (A ⟶ w)
  rule_ok {k} {A} {w} r =
      let z = standing g.rules k ok.rules_ok (rule_number r) in
      let e : z.A ≡ A = cc (z.stands, r.stands) in
      let e' : z.w ≡ w = cc (z.stands, r.stands) in
      rw (e, e') at z.ok

  pub rule_symbols : {k A : ℕ} {w : List ℕ} → RuleAt g k A w → All (λ s. s < g.N + g.T) w
  rule_symbols r = (rule_ok r).2

  pub rule_short : {k A : ℕ} {w : List ℕ} → RuleAt g k A w → length w ≤ 32
  rule_short r = (rule_ok r).1

-- words are a grammar in one way
pub reads_unique : (ws : List ℕ) {g h : Grammar} → layout ws ≡ reads g → layout ws ≡ reads h → g ≡ h
reads_unique ws a b = cc
