-- `divide`: the places before i hold their packed numbers, and what is left is d less their rounded parts.
use native.Mathlib.Omega.{arith}
use Rattle.measures.proofs.SharingLaws.{product_fits}
use Rattle.measures.proofs.SelectLaws.{dividing_start, quotient_small, fraction-small, quotient_left, dividing_again, dividing_end}
use Rattle.measures.proofs.sharing.divide.Goals as goal
use Rattle.measures.proofs.ListLaws.{amount_le}

pub loop-i-init : goal.loop-i-init
loop-i-init c = dividing_start _ _ _

pub overflow_mul-product : goal.overflow_mul-product
overflow_mul-product c =
    record {
      fits =
          product_fits _ _ (omega arith) (omega (arith, amount_le c.args.amounts.now c.loop-i.i));
    }

pub overflow_mul-parts : goal.overflow_mul-parts
overflow_mul-parts c =
    omega (arith, quotient_small _ _ _ _ _ _ _ c.requires c.loop-i.invariant c.loop-i-test.true)

pub overflow_add-parts : goal.overflow_add-parts
overflow_add-parts c =
    let s = c.requires in
    let v = c.loop-i.invariant in
    let h = c.loop-i-test.true in
    omega (arith, quotient_small _ _ _ _ _ _ _ s v h, fraction-small _ _ _ _ _ _ _ s v h)

pub overflow_sub-left : goal.overflow_sub-left
overflow_sub-left c = quotient_left _ _ _ _ _ _ _ c.requires c.loop-i.invariant c.loop-i-test.true

pub loop-i-preserved : goal.loop-i-preserved
loop-i-preserved c = dividing_again _ _ _ _ _ _ _ c.requires c.loop-i.invariant c.loop-i-test.true

pub returns : goal.returns
returns c = dividing_end _ _ _ _ _ _ c.loop-i.invariant c.loop-i-test.false
