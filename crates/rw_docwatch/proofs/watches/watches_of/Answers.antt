-- The watch and its name are put behind those before it.
use Rattle.std.proofs.Common.{◌≡◌, ◌∙◌, Ok, List, [], ◌∷◌, ◌++◌, length, map, length-append, append_assoc}
use Rattle.std.proofs.lemmas.List.{length-map, map-append}
use Rattle.std.proofs.lemmas.List.Elements.{All-push}
use Rattle.serde_json.specs.View.{view}
use Rattle.rw_schema.specs.Presentation.{signature_of}
use Rattle.rw_rule.specs.declared.watch.Watch as declared
use Rattle.rw_rule.specs.RuleLists.{WatchLists}
use Rattle.rw_rule.specs.RuleParts.{lists_of_watch}
use Rattle.rw_doc.proofs.Readings.{read_more_behind}
use Rattle.rw_docwatch.specs.Known.{IsWatchRead}
use Rattle.rw_docwatch.specs.Watches as spec
use Rattle.rw_docwatch.proofs.watches.watches_of.Goals as goal

pub loop-place-preserved : goal.loop-place-preserved
loop-place-preserved c =
    let schema = c.args.schema.now in
    let names = c.args.names.now in
    let watches : List declared.Watch = c.loop-place.watches.items in
    let watch : declared.Watch = c.in_ok-watch.watch in
    let before : List WatchLists = map lists_of_watch watches in
    let long : length before ≡ c.loop-place.place = length-map watches lists_of_watch ∙ c.loop-place.invariant.long in
    let mapped : map lists_of_watch c.push-in-loop-place.new.self.items ≡ before ++ lists_of_watch watch ∷ [] =
    rw c.in_ok-push-2.ensures.items (map-append lists_of_watch watches (watch ∷ [])) in
    let read : spec.read_watch schema names before (view c.index-items-place.result) ≡ Ok (lists_of_watch watch) =
    rw (c.loop-place.invariant.names, ← long) at c.in_ok-watch.ensures.gives in
    let IsKnown : declared.Watch → Type 0 = λ watch. IsWatchRead (signature_of schema) (lists_of_watch watch) in
    record {
      gives = rw mapped (read_more_behind (spec.read_watch schema names) c.args.items.now c.loop-place.place before c.index-items-place.result (lists_of_watch watch)
          c.loop-place.invariant.gives c.loop-place-test.true c.index-items-place.is read);
      known = rw c.in_ok-push-2.ensures.items (All-push IsKnown watches watch c.loop-place.invariant.known c.in_ok-watch.ensures.known);
      names = rw (
        mapped,
        c.in_ok-push.ensures.ok,
        c.loop-place.invariant.names,
        c.as_str.ensures,
        map-append (λ (watch : WatchLists). watch.name) before (lists_of_watch watch ∷ []),
        append_assoc,
      );
      long = rw (c.in_ok-push-2.ensures.items, length-append watches (watch ∷ []), c.loop-place.invariant.long);
    }
