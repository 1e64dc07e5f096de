-- The order of versions is a total order. Assumes nothing.
use Rattle.std.specs.Prelude.{◌≡◌, List}
use Rattle.std.proofs.Common.{refl, sym, ap, ◌∙◌}
use Rattle.std.specs.declared.cmp.Ordering.{Ordering}
use Rattle.std.specs.declared.cmp.Ordering.TheVariants.{Less, Equal, Greater}
use Rattle.std.specs.Ordering.{ordering_reverse}
use Rattle.std.specs.Cmp.{IsTotalOrder}
use Rattle.rules.specs.Versions.{compare_versions, compare_lists, compare_run, runs}
use Rattle.rules.specs.Versions as Rules
use Rattle.rules.proofs.VersionsLaws.{Ordered, reverse, lists-ordered, runs-ordered}
use Rattle.versions.specs.Told.{told}
use Rattle.versions.specs.Orders.{version_cmp}

-- the code's answer taken back
unfoldable back : Ordering → Rules.Order
back Less = Rules.Order.lower
back Equal = Rules.Order.equal
back Greater = Rules.Order.higher

back-told : (o : Rules.Order) → back (told o) ≡ o
unfolding back
back-told Rules.Order.lower = refl
back-told Rules.Order.equal = refl
back-told Rules.Order.higher = refl

-- each of the code's answers is one of the rules'
pub told-one : (o p : Rules.Order) → told o ≡ told p → o ≡ p
told-one o p e = sym (back-told o) ∙ ap back e ∙ back-told p

turned : (o : Rules.Order) → told (reverse o) ≡ ordering_reverse (told o)
unfolding reverse
turned Rules.Order.lower = refl
turned Rules.Order.equal = refl
turned Rules.Order.higher = refl

pub version_total : IsTotalOrder version_cmp
unfolding compare_versions
version_total =
    let o : Ordered (compare_lists compare_run) = lists-ordered runs-ordered in
    record {
      antisymm = λ x y. ap told (o.turns (runs y.0.now) (runs x.0.now)) ∙ turned (compare_lists compare_run (runs y.0.now) (runs x.0.now));
      trans = λ x y z p q. ap told (o.chain (runs x.0.now) (runs y.0.now) (runs z.0.now) (told-one _ Rules.Order.lower p) (told-one _ Rules.Order.lower q));
      congr = λ x y z p. ap (λ (r : List Rules.Run). told (compare_lists compare_run r (runs z.0.now))) (o.one (runs x.0.now) (runs y.0.now) (told-one _ Rules.Order.equal p));
    }
