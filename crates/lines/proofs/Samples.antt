-- Document 01's own lines are as it prints them. Assumes nothing.
use mathlib.Core.Path.{refl}
use Rattle.lines.specs.Digits.{digits_in, decimal}
use Rattle.lines.specs.Lines.{spaced, suite_line, sentence_line, end_line, refused_line}
use Rattle.lines.specs.Samples.{samples, Right}

-- SAMPLES: every line of the table is as printed
pub samples_right : Right samples
unfolding digits_in decimal spaced suite_line sentence_line end_line refused_line
samples_right = (refl, (refl, (refl, (refl, (refl, (refl, (refl, tt)))))))
