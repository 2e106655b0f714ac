-- What is left of a form, as the stack of right sides holds it: what its first symbol is, what a rule opened or a step back makes
-- of it, and what is behind the tokens in front. Assumes nothing.
use Rattle.std.proofs.Common.{ℕ, ◌≡◌, ◌+◌, ◌-◌, ◌≤◌, ◌<◌, List, [], ◌∷◌, ◌++◌, length, get_or, take, drop, set}
use Rattle.std.proofs.Common.{◌⊎◌, inl, inr, refl, sym, ap, ◌∙◌, append_assoc, arith}
use Rattle.std.proofs.lemmas.List.{take_more, drop-drop, take-append-drop, drop-take, length-set, reverse-append}
use Rattle.std.proofs.lemmas.Bool.{cases_lt}
use Rattle.std.proofs.lemmas.Grind.{common_steps, take-set_at}
use Rattle.layout.specs.Walk.{count_at}
use Rattle.replay.specs.Forms.{side, rest_at, waiting, form_of, waiting_above, behind, past, at_rule, Openable, Opened}
use Rattle.replay.specs.declared.forms.Open.{Open}
use Rattle.replay.specs.declared.forms.Rest.{Rest}

module _ (ws : List ℕ) (at left : ℕ) where
  -- so many symbols, and those behind them
  side_split : (count : ℕ) → count ≤ left → side ws at left ≡ take count (side ws at left) ++ side ws (at + count) (left - count)
  side_split count h =
      let e : count + (left - count) ≡ left = omega arith in
      let behind = drop-take count (left - count) (drop at ws) in
      sym (take-append-drop count (side ws at left)) ∙
      ap (λ (l : List ℕ). take count (side ws at left) ++ l) (rw e at behind ∙ ap (take (left - count)) (drop-drop count at ws))

  side_first : 0 < left → at + left ≤ length ws → side ws at left ≡ get_or ws at 0 ∷ side ws (at + 1) (left - 1)
  side_first some inside = grind (arith, common_steps, side_split 1)

module _ (ws : List ℕ) (stack : List Rest) where
  waiting_last : (d : ℕ) → 0 < d → d ≤ length stack →
      waiting ws stack d ≡ side ws (rest_at stack (d - 1)).at (rest_at stack (d - 1)).left ++ waiting ws stack (d - 1)
  unfolding waiting
  waiting_last d some room =
      let e : d - 1 + 1 ≡ d = omega arith in
      let taken = take_more stack (d - 1) (record { at = 0; left = 0 }) (omega arith) in
      rw (rw e at taken, reverse-append)

  waiting_pushed : (d : ℕ) (r : Rest) → d < length stack →
      waiting ws (set stack d r) (d + 1) ≡ side ws r.at r.left ++ waiting ws stack d
  unfolding waiting
  waiting_pushed d r room = rw (take-set_at stack d (d + 1) r refl room, reverse-append)

module _ (ws : List ℕ) (stack : List Rest) (o : Open) where
  pub form_first : 0 < o.left → o.at + o.left ≤ length ws → form_of ws stack o ≡ get_or ws o.at 0 ∷ form_of ws stack (behind o)
  form_first some inside = ap (λ (l : List ℕ). l ++ waiting ws stack o.depth) (side_first ws o.at o.left some inside)

  pub form_above : o.left ≡ 0 → 0 < o.depth → o.depth ≤ length stack →
      form_of ws stack o ≡ form_of ws stack (waiting_above stack o)
  form_above none some room = rw none (waiting_last ws stack o.depth some room)

  pub form_empty : o.left ≡ 0 → o.depth ≡ 0 → form_of ws stack o ≡ []
  unfolding waiting
  form_empty none nothing = rw (none, nothing)

  -- tokens passed
  pub form_past : (count : ℕ) → count ≤ o.left →
      form_of ws stack o ≡ take count (side ws o.at o.left) ++ form_of ws stack (past o count)
  form_past count h =
      let passed = take count (side ws o.at o.left) in
      let others = waiting ws stack o.depth in
      ap (λ (l : List ℕ). l ++ others) (side_split ws o.at o.left count h) ∙
      append_assoc passed (side ws (o.at + count) (o.left - count)) others

-- what the rule at an index, opened, makes of a form
pub record Grown (ws : List ℕ) (at : ℕ) (stack : List Rest) (o : Open) (stack' : List Rest) (o' : Open) : Type 0 where
  pub form : form_of ws stack' o' ≡ side ws (at + 2) (count_at ws at) ++ form_of ws stack (behind o)
  pub inside : o'.at + o'.left ≤ length ws
  pub all_inside : (i : ℕ) → i < o'.depth → (rest_at stack' i).at + (rest_at stack' i).left ≤ length ws
  pub deeper : o'.depth ≤ o.depth + 1
  pub one_more : o'.next ≡ o.next + 1
  pub same_tokens : o'.tokens ≡ o.tokens
  pub same_length : length stack' ≡ length stack

pub grown : {ws : List ℕ} {at : ℕ} {stack stack' : List Rest} {o o' : Open} → Openable ws at stack o →
    ((i : ℕ) → i < o.depth → (rest_at stack i).at + (rest_at stack i).left ≤ length ws) →
    Opened ws at stack o stack' o' → Grown ws at stack o stack' o'
grown {ws} {at} {stack} {stack'} {o} {o'} able all_inside opened = by (cases_lt 1 o.left)
  where
    -- nothing is behind the symbol, so nothing waits more
    alone : o.left ≡ 1 → Grown ws at stack o stack (at_rule ws at o o.depth)
    alone one =
        let none : o.left - 1 ≡ 0 = omega arith in
        record {
          form = rw none;
          inside = able.whole;
          all_inside = all_inside;
          deeper = omega arith;
          one_more = refl;
          same_tokens = refl;
          same_length = refl;
        }

    -- what is behind it waits
    behind_it : Rest
    behind_it = record { at = o.at + 1; left = o.left - 1 }

    inside : (i : ℕ) → i < o.depth + 1 →
        (rest_at (set stack o.depth behind_it) i).at + (rest_at (set stack o.depth behind_it) i).left ≤ length ws
    inside i h = grind (arith, common_steps, all_inside i, able.inside)

    more : Grown ws at stack o (set stack o.depth behind_it) (at_rule ws at o (o.depth + 1))
    more =
        record {
          form = rw (waiting_pushed ws stack o.depth behind_it able.room);
          inside = able.whole;
          all_inside = inside;
          deeper = omega arith;
          one_more = refl;
          same_tokens = refl;
          same_length = length-set stack o.depth behind_it;
        }

    by : (1 < o.left) ⊎ (o.left ≤ 1) → Grown ws at stack o stack' o'
    by (inl two) = let waits = opened.waits two in rw (waits.0, waits.1) more
    by (inr one) = let last = opened.last (omega (arith, able.some)) in rw (last.0, last.1) (alone (omega (arith, able.some)))
