-- Each list is of what stays.
use Rattle.std.proofs.Common.{◌≡◌, ◌∙◌, [], ℕ, List, None, Some, length, map, replicate, ap, subst, sym}
use Rattle.std.specs.List.{range_with_len}
use Rattle.std.proofs.lemmas.List.{length-map}
use Rattle.rw_schema.specs.declared.signature.AttrEnds.{AttrEnds}
use Rattle.rw_schema.specs.First.{map_in}
use Rattle.rw_schema.specs.Presentation.{ends_of_arrow, signature_of}
use Rattle.rw_schema.specs.Signature.{Signature}
use Rattle.rw_pattern.specs.PatternLists.{PatternLists}
use Rattle.rw_delta.specs.ContextLists.{ContextLists}
use Rattle.rw_dpo.proofs.Sites.{kept_at}
use Rattle.rw_spo.specs.inner.Staying.{marks_staying, names_alone, names_staying}
use Rattle.rw_spo.proofs.pair.context_lists.Goals as goal

pub kept_lists-requires-clause-kept : goal.kept_lists-requires-clause-kept
kept_lists-requires-clause-kept g c = λ object within.
    let C = g.P.Probe.signature c.args.probe.now in
    let objects : c.objects-objects.result ≡ C.objects = c.objects-objects.ensures.value ∙ ap (λ (C : Signature). C.objects) (sym c.requires.probe) in
    kept_at C c.args.rule.now c.args.tuple.now (g.P.Probe.instance c.args.probe.now) object c.requires.site (rw objects at within)

pub returns : goal.returns
returns g c =
    let C : Signature = signature_of c.args.schema.now in
    let rule = c.args.rule.now in
    let tuple = c.args.tuple.now in
    let X = g.P.Probe.instance c.args.probe.now in
    let elements = c.args.removed.now in
    record {
      of_keep = c.in_ok-context-inside.ensures ∙ ap (λ (n : ℕ). map (names_staying elements rule tuple) (range_with_len 0 n)) c.objects-objects.ensures.value;
      removed = c.in_ok-context-inside-2.ensures ∙ ap (λ (n : ℕ). map (names_alone elements X None) (range_with_len 0 n)) c.objects-objects.ensures.value;
      copies = ap (λ (context : ContextLists). context.copies) c.context.view_is ∙ c.empty_context-context.ensures;
      blank = c.in_ok-context-inside-3.ensures;
      right = c.in_ok-context-inside-4.ensures
          ∙ ap (λ (n : ℕ). map (marks_staying elements c.right.result.now None) (range_with_len 0 n)) c.objects-objects.ensures.value
          ∙ ap (λ (right : PatternLists). map (marks_staying elements right None) (range_with_len 0 C.objects)) c.right.ensures;
      right_cells = c.in_ok-context-inside-5.ensures
          ∙ ap (λ (right : PatternLists). map_in (λ c (ends : AttrEnds). marks_staying elements right (Some c) ends.object.0) 0 C.attributes) c.right-2.ensures;
      rows = c.in_ok-context-inside-6.ensures
          ∙ ap (λ (n : ℕ). replicate n []) (c.arrows.ensures.value ∙ sym (length-map c.args.schema.now.arrows ends_of_arrow));
      next = c.in_ok-context-inside-7.ensures.items;
    }
