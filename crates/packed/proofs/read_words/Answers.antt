-- What the check leaves of `packed::read_words`: the block holds the last octets. Assumes nothing.
use Rattle.std.proofs.Common.{◌≡◌, ◌-◌, ◌*◌, length, drop, arith}
use Rattle.std.proofs.lemmas.Grind.{common_steps}
use Rattle.packed.proofs.LastBlock.{last_block}
use Rattle.packed.proofs.read_words.Goals as goal

pub returns : goal.returns
returns c =
    let last = length c.args.words.now - 8 in
    let same : length c.args.octets.now - 16 ≡ 2 * last = omega arith in
    let taken : c.in-Some.block ≡ drop (2 * last) c.args.octets.now = rw (← same) (grind (arith, common_steps)) in
    grind (arith, last_block)
