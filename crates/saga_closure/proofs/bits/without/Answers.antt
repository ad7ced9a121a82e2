use Rattle.std.proofs.Common.{◌<◌, ◌^◌, arith}
use Rattle.saga_closure.proofs.BitLemmas.{both_bits, rest_bits}
use Rattle.saga_closure.proofs.bits.without.Goals as goal

pub returns : goal.returns
returns c =
    let small : c.args.less < 2 ^ 64 = omega (arith, c.ranges.less.fits) in
    record {
      only = λ b lt held. both_bits c.args.word c.args.less b small lt held;
      rest = λ b lt held free. rest_bits c.args.word c.args.less b small lt held free;
    }
