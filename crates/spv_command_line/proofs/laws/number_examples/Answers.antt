use Rattle.std.proofs.Common.{◌≡◌, codes, refl, lit≤, arith}
use Rattle.spv_command_line.specs.Number.{IsNumber}
use Rattle.spv_command_line.proofs.Numerals.{comma_at_the_end}
use Rattle.spv_command_line.proofs.laws.number_examples.Goals as goal

twelve : IsNumber (codes "12") 12
twelve = record { some = lit≤ tt; digits = refl; is_value = refl; fits = lit≤ tt }

pub returns : goal.returns
returns c = record {
  number = record { some = lit≤ tt; digits = refl; is_value = refl; fits = lit≤ tt };
  no_sign = λ n m. let d = m.digits in cc;
  no_digit = λ n m. let s = m.some in omega (arith, s);
  too_large = λ n m. let v : 4294967296 ≡ n = m.is_value in let f = m.fits in omega (arith, v, f);
  numbers = (record { some = lit≤ tt; digits = refl; is_value = refl; fits = lit≤ tt }, (record { some = lit≤ tt; digits = refl; is_value = refl; fits = lit≤ tt }, tt));
  no_numbers = comma_at_the_end;
  by_id = twelve;
  by_name = λ name e. (e, λ n m. let d = m.digits in cc);
  no_name = λ name p. p.1 12 twelve;
  not_chosen = tt;
  none_chosen = λ e. e;
}
