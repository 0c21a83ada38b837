-- The object's mark is put behind those before it.
use Rattle.std.proofs.Common.{◌≡◌, ◌+◌, ◌==◌, arith}
use Rattle.std.specs.List.{list_any}
use Rattle.std.proofs.lemmas.List.FromFn.{map-range_with_len_more}
use Rattle.rw_schema.specs.declared.ids.ObjectId.{ObjectId}
use Rattle.rw_docpattern.proofs.objects.marks_of.Goals as goal

pub loop-object-preserved : goal.loop-object-preserved
loop-object-preserved c =
    let same : 0 + c.loop-object.object ≡ c.loop-object.object = omega arith in
    rw (
      c.in_ok-push.ensures.items,
      c.loop-object.invariant,
      c.is_listed.ensures,
      map-range_with_len_more (λ object. list_any (λ (other : ObjectId). other.0 == object) c.args.listed.now) 0 c.loop-object.object c.loop-object.object same,
    )
