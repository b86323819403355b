use Rattle.std.proofs.Common.{◌*◌, ◌/◌, ◌%◌, ◌^◌, ◌<◌, ◌∙◌, ap, map, subst, arith, ℕ}
use lib.Lanes.{number_l, digits_l}
use Rattle.qa_scan.proofs.Lanes.{fours_are, number_of_digits, number_below}
use Rattle.qa_scan.proofs.short.fours.Goals as goal

pub returns : goal.returns
returns c =
    let xs = c.args.twos in
    let small : number_l 65536 xs < 256 ^ 16 = subst (λ (n : ℕ). number_l 65536 xs < 65536 ^ n) c.requires.long (number_below 65536 100 xs (omega arith) c.requires.digits) in
    ap (λ x. map (λ w. w * 6553601 % 4294967296 / 65536) (digits_l 4294967296 4 x)) (number_of_digits 256 16 (number_l 65536 xs) (omega arith) small)
    ∙ fours_are 4 xs c.requires.long c.requires.digits
