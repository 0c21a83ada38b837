use Rattle.std.proofs.Common.{ℕ, List, [], ◌∷◌, set, arith}
use Rattle.rw_classes.specs.inner.Links.{AreUnited, IsRootOf, IsShortened}
use Rattle.rw_classes.proofs.Links.{linked, root_kept, shortened_joins_none, shortened_more, turned, united_more}
use Rattle.rw_classes.proofs.classes.unite.Goals as goal

pub returns-then-x_root-y_root : goal.returns-then-x_root-y_root
returns-then-x_root-y_root c =
    let old : List ℕ = c.args.parents.now in
    let half : List ℕ = c.root-x_root.new.parents in
    let shorter : List ℕ = c.root-y_root.new.parents in
    let x_root : ℕ = c.root-x_root.result in
    let y_root : ℕ = c.root-y_root.result in
    let way : IsShortened old shorter = shortened_more old half shorter c.root-x_root.ensures.way c.root-y_root.ensures.way in
    let x_is : IsRootOf shorter c.args.x x_root = root_kept half shorter c.args.x x_root c.root-y_root.ensures.way c.root-x_root.ensures.root in
    let link : AreUnited ((c.args.y, c.args.x) ∷ []) shorter (set shorter y_root x_root) =
    linked shorter c.args.y c.args.x x_root y_root way.descends c.root-y_root.ensures.root x_is (omega arith) in
    united_more [] ((c.args.x, c.args.y) ∷ []) old shorter (set shorter y_root x_root) (shortened_joins_none old shorter way)
    (turned c.args.y c.args.x shorter (set shorter y_root x_root) link)

pub returns-else-x_root-y_root : goal.returns-else-x_root-y_root
returns-else-x_root-y_root c =
    let old : List ℕ = c.args.parents.now in
    let half : List ℕ = c.root-x_root.new.parents in
    let shorter : List ℕ = c.root-y_root.new.parents in
    let x_root : ℕ = c.root-x_root.result in
    let y_root : ℕ = c.root-y_root.result in
    let way : IsShortened old shorter = shortened_more old half shorter c.root-x_root.ensures.way c.root-y_root.ensures.way in
    let x_is : IsRootOf shorter c.args.x x_root = root_kept half shorter c.args.x x_root c.root-y_root.ensures.way c.root-x_root.ensures.root in
    united_more [] ((c.args.x, c.args.y) ∷ []) old shorter (set shorter x_root y_root) (shortened_joins_none old shorter way)
    (linked shorter c.args.x c.args.y y_root x_root way.descends x_is c.root-y_root.ensures.root (omega arith))
