use Rattle.std.proofs.lemmas.Result.{err_from_is_err_and}
use Rattle.shop_base.proofs.Refusals.{refused_just, fault_refutes}
use Rattle.shop_base.proofs.OneFault.{fault_once}
use Rattle.shop_base.proofs.shop.Shop.of_kind.Goals as goal

pub returns-in_err-check_size : goal.returns-in_err-check_size
returns-in_err-check_size c =
    let p = err_from_is_err_and c.from_residual.result c.from_residual.ensures.1 in
    let fault = rw c.deref.ensures.value at c.in_err-check_size.ensures.first_fault in
    rw (p.1, p.2) (record { shop = tt; sound = tt; exact = refused_just (fault_refutes _ _ _ _ fault); first_fault = fault; only_fault = λ other is. fault_once _ _ _ other _ is fault })

pub returns-in_err-check_routes : goal.returns-in_err-check_routes
returns-in_err-check_routes c =
    let p = err_from_is_err_and c.from_residual-in_err-check_routes.result c.from_residual-in_err-check_routes.ensures.1 in
    let fault = rw c.deref-2.ensures.value at c.in_err-check_routes.ensures.first_fault in
    rw (p.1, p.2) (record { shop = tt; sound = tt; exact = refused_just (fault_refutes _ _ _ _ fault); first_fault = fault; only_fault = λ other is. fault_once _ _ _ other _ is fault })
