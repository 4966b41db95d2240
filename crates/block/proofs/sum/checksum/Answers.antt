use Rattle.std.proofs.Common.{◌/◌, length, rules, arith}
use Rattle.std.proofs.lemmas.Iterator.{YieldsList-from_slice, YieldsList-from_map}
use Rattle.std.proofs.lemmas.Iterator.Consumers.{sum_by_from_yields_List, fits_by_from_yields_list}
use Rattle.std.specs.Simd.{first_chunks}
use Rattle.block.proofs.Carries.{low_first, plain_small, check_carried}
use Rattle.block.proofs.sum.checksum.Goals as goal

pub sum-sum-requires-clause-fits : goal.sum-sum-requires-clause-fits
sum-sum-requires-clause-fits c =
    fits_by_from_yields_list low_first _ _ _ (YieldsList-from_map _ low_first (YieldsList-from_slice (first_chunks 2 (length c.args.bytes.now / 2) c.args.bytes.now) (cc)) c.map.ensures.closure (λ x r q k. search rules))
    (omega (arith, plain_small c.args.bytes.now c.requires.0 c.requires.1 (λ k. omega (arith, c.type_inv.bytes k))))

pub returns : goal.returns
returns c =
    let sum = sum_by_from_yields_List low_first _ _ _ c.sum-sum.ensures.ran (YieldsList-from_map _ low_first (YieldsList-from_slice (first_chunks 2 (length c.args.bytes.now / 2) c.args.bytes.now) (cc)) c.map.ensures.closure (λ x r q k. search rules)) in
    check_carried c.args.bytes.now _ _ _ c.requires.0 c.requires.1 (λ k. omega (arith, c.type_inv.bytes k)) (search (rules, sum)) c.carried-sum.ensures c.swap_bytes.ensures
