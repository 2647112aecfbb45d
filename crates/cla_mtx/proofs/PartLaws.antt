-- Texts that are put out piece by piece.
use Rattle.std.proofs.Common.{ℕ, List, ◌++◌, Option, Result, Ok, Err, subst, append_assoc}
use Rattle.cla_io.specs.declared.stop.Stop.{Stop}
use Rattle.cla_print.specs.Parting.{IsParted, HasFront, Parts}
use Rattle.cla_print.proofs.PartLaws.{parted_on, front_on, front_longer}

-- the first of two pieces failed
pub first_fails : (x y z : List ℕ) (a b : Option (List ℕ)) → HasFront (x ++ y) a b → HasFront (x ++ (y ++ z)) a b
first_fails x y z a b h = subst (λ (t : List ℕ). HasFront t a b) (append_assoc x y z) (front_longer (x ++ y) z a b h)

-- a piece behind one that was put
pub put_behind : {U : Type 0} (x y z : List ℕ) (a b c : Option (List ℕ)) (held held' : List ℕ) (r : Result U Stop)
    → IsParted (x ++ y) a b held → Parts (held ++ z) b c held' r → Parts (x ++ (y ++ z)) a c held' r
put_behind x y z a b c held held' (Ok u) h k =
    subst (λ (t : List ℕ). IsParted t a c held') (append_assoc x y z) (parted_on (x ++ y) z a b c held held' h k)
put_behind x y z a b c held held' (Err e) h k =
    subst (λ (t : List ℕ). HasFront t a c) (append_assoc x y z) (front_on (x ++ y) z a b c held h k)

pub front_behind : (x y z : List ℕ) (a b c : Option (List ℕ)) (held : List ℕ) → IsParted (x ++ y) a b held
    → HasFront (held ++ z) b c → HasFront (x ++ (y ++ z)) a c
front_behind x y z a b c held h k =
    subst (λ (t : List ℕ). HasFront t a c) (append_assoc x y z) (front_on (x ++ y) z a b c held h k)
