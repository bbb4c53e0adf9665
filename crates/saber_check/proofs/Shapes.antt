-- What the tree of a predicate's part is.
use Rattle.std.proofs.Common.{◌≡◌, map, rules, Box}
use Rattle.std.specs.declared.alloc.Global.{Global}
use Rattle.saber_query.specs.declared.tree.Cmp.{Cmp}
use Rattle.saber_query.specs.declared.tree.Expr.{Expr}
use Rattle.saber_query.specs.declared.tree.Unit.{Unit as Unit_tree, Not, Enclosed, Compare, the_lemmas}
use Rattle.saber_query.specs.declared.tree.Conj.{Conj}
use Rattle.saber_query.specs.declared.tree.Pred.{Pred, out-Pred}
use Rattle.saber_query.specs.Trees.{negated, compare, test_of, both_of, tests_of, enclosed_by, both_by, tests_by}

pub not_shape : (b : Box Unit_tree Global) → test_of (Not b) ≡ negated (test_of b.value)
not_shape b = search (rules, the_lemmas)

pub enclosed_shape : (b : Box Pred Global) → test_of (Enclosed b) ≡ enclosed_by (tests_of b.value)
enclosed_shape b = search (rules, the_lemmas)

pub compare_shape : (x : Expr) (c : Cmp) (y : Expr) → test_of (Compare x c y) ≡ compare x c y
compare_shape x c y = search (rules, the_lemmas)

pub conj_shape : (c : Conj) → both_of c ≡ both_by (test_of c.first) (map test_of c.more.items)
conj_shape c = search (rules, the_lemmas)

pub pred_shape : (p : Pred) → tests_of p ≡ tests_by (both_of (out-Pred p).first) (map both_of (out-Pred p).more.items)
pred_shape p = search (rules, the_lemmas)
