-- Each list is that of the context.
use Rattle.std.proofs.Common.{◌≡◌, ◌∙◌, [], ℕ, map, replicate, ap, sym}
use Rattle.std.specs.List.{range_with_len}
use Rattle.std.proofs.lemmas.List.{length-map}
use Rattle.rw_schema.specs.declared.signature.AttrEnds.{AttrEnds}
use Rattle.rw_schema.specs.Presentation.{ends_of_arrow, signature_of}
use Rattle.rw_schema.specs.Signature.{Signature}
use Rattle.rw_pattern.specs.PatternLists.{PatternLists}
use Rattle.rw_delta.specs.ContextLists.{ContextLists}
use Rattle.rw_dpo.specs.Contexts.{all_stay, kept_names, removed_names}
use Rattle.rw_dpo.proofs.Sites.{kept_at}
use Rattle.rw_dpo.proofs.context.context_lists.Goals as goal

pub kept_lists-requires-clause-kept : goal.kept_lists-requires-clause-kept
kept_lists-requires-clause-kept g c = λ object within.
    let C = g.P.Probe.signature c.args.probe.now in
    let objects : c.objects-objects.result ≡ C.objects = c.objects-objects.ensures.value ∙ ap (λ (C : Signature). C.objects) (sym c.requires.probe) in
    kept_at C c.args.rule.now c.args.tuple.now (g.P.Probe.instance c.args.probe.now) object c.requires.site (rw objects at within)

pub returns : goal.returns
returns g c =
    let C : Signature = signature_of c.args.schema.now in
    let rule = c.args.rule.now in
    let tuple = c.args.tuple.now in
    let X = g.P.Probe.instance c.args.probe.now in
    record {
      of_keep = c.in_ok-context-inside.ensures ∙ ap (λ (n : ℕ). map (kept_names rule tuple) (range_with_len 0 n)) c.objects-objects.ensures.value;
      removed = c.in_ok-context-inside-2.ensures ∙ ap (λ (n : ℕ). map (removed_names rule tuple X) (range_with_len 0 n)) c.objects-objects.ensures.value;
      copies = ap (λ (context : ContextLists). context.copies) c.context.view_is ∙ c.empty_context-context.ensures;
      blank = c.in_ok-context-inside-3.ensures;
      right = c.in_ok-context-inside-4.ensures
          ∙ ap (λ (n : ℕ). map (all_stay c.right.result.now) (range_with_len 0 n)) c.objects-objects.ensures.value
          ∙ ap (λ (right : PatternLists). map (all_stay right) (range_with_len 0 C.objects)) c.right.ensures;
      right_cells = c.in_ok-context-inside-5.ensures
          ∙ ap (λ (right : PatternLists). map (λ (ends : AttrEnds). all_stay right ends.object.0) C.attributes) c.right-2.ensures;
      rows = c.in_ok-context-inside-6.ensures
          ∙ ap (λ (n : ℕ). replicate n []) (c.arrows.ensures.value ∙ sym (length-map c.args.schema.now.arrows ends_of_arrow));
      next = c.in_ok-context-inside-7.ensures.items;
    }
