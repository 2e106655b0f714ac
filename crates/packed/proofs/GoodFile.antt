-- The files that neither row 1 nor row 2 refuses are the good ones, which are said without negation; of octets, these are the files
-- of at most 8,707 words. Assumes nothing.
use mathlib.Core.Path.{◌≡◌, refl, sym, ap, ◌∙◌}
use mathlib.Core.List.{List, [], ◌∷◌}
use Rattle.std.proofs.lemmas.Grind.{common_steps}
use mathlib.Core.Logic.{◌↔◌}
use Prim.Native.Nat.{ℕ, suc, ◌+◌, ◌*◌, ◌-◌, ◌/◌, ◌%◌, ◌≤◌}
use native.Mathlib.Nat.{div-add-mod'}
use native.Mathlib.Omega.{arith}
use lib.Arith.{digits_div, digits_mod}
use lib.ListN.{length, get_or, length-drop, get_or-eq_default}
use Rattle.packed.specs.File.{octets_of, file_of, said, words_in, Octets, GoodFile}
use Rattle.packed.specs.Promise.{NotVersionOne, BadLength}
use Rattle.packed.specs.Promise.NotVersionOne.{empty, first_not_one}
use Rattle.packed.specs.Promise.BadLength.{under_three, odd, above, not_following}
use Rattle.packed.proofs.WordsAndOctets.{length-octets_of, length-file_of, length_words_in}
use Rattle.packed.proofs.WordsAndOctets.{words_in_file_of, octets_back}

module _ (file : List ℕ) where
  -- what the tests of code find of a header's length
  pub counted : 3 ≤ length file → said file % 2 ≡ 0 → said file ≡ length file - 3 → length (words_in file) ≡ said file / 2
  counted three even follow = length_words_in file (said file / 2) (omega arith)

  pub is_version_one : get_or file 0 0 ≡ 1 → ¬ NotVersionOne file
  is_version_one v (empty e) = omega (arith, get_or-eq_default file 0 {n = 0} (omega arith))
  is_version_one v (first_not_one h) = h v

  pub is_good_length : 3 ≤ length file → said file % 2 ≡ 0 → said file ≤ 17414 → said file ≡ length file - 3 → ¬ BadLength file
  is_good_length three even most follow (under_three h) = omega arith
  is_good_length three even most follow (odd h) = omega arith
  is_good_length three even most follow (above h) = omega arith
  is_good_length three even most follow (not_following h) = h (follow ∙ omega (arith, length-drop 3 file))

  pub passes : GoodFile file → ¬ NotVersionOne file × ¬ BadLength file
  passes g = grind (arith, common_steps)

  pub good : ¬ NotVersionOne file → ¬ BadLength file → GoodFile file
  good v l = grind (arith, common_steps, counted, first_not_one, under_three, odd, above, not_following)

  pub passes_exactly : (¬ NotVersionOne file × ¬ BadLength file) ↔ GoodFile file
  passes_exactly = (λ h. good h.0 h.1, passes)

-- the file of at most 8,707 words is good
pub file_of_good : (ws : List ℕ) → length ws ≤ 8707 → GoodFile (file_of ws)
unfolding file_of octets_of
file_of_good ws h =
    let back = ap length (words_in_file_of ws) in
    let m = length-octets_of ws in
    let s = div-add-mod' (length (octets_of ws)) 256 in
    record { version = refl; all = omega (arith, length-file_of ws); says = omega arith; most = omega arith }

-- and a good file of octets is that of its words
pub file_back : (file : List ℕ) → Octets file → GoodFile file → file_of (words_in file) ≡ file
unfolding file_of octets_of
file_back [] b g = absurd (omega (arith, g.all))
file_back (x ∷ []) b g = absurd (omega (arith, g.all))
file_back (x ∷ h ∷ []) b g = absurd (omega (arith, g.all))
file_back (x ∷ h ∷ l ∷ rest) b g =
    let e : length (octets_of (words_in (x ∷ h ∷ l ∷ rest))) ≡ h * 256 + l =
    length-octets_of (words_in (x ∷ h ∷ l ∷ rest)) ∙ omega (arith, g.says) in
    let even : length rest ≡ 2 * length (words_in (x ∷ h ∷ l ∷ rest)) = omega (arith, g.all) in
    rw (e, digits_div h (b 2), digits_mod h (b 2), octets_back rest _ even (λ i. b (suc (suc (suc i)))), g.version)

pub good_exactly : (file : List ℕ) → Octets file → GoodFile file ↔ ((ws : List ℕ) × (length ws ≤ 8707) × (file ≡ file_of ws))
good_exactly file b =
    (λ g. (words_in file, g.most, sym (file_back file b g)), λ f. rw f.2 (file_of_good f.0 f.1))
