use Rattle.std.specs.Prelude.{map}
use Rattle.std.proofs.lemmas.List.{map-append}
use Rattle.std.proofs.Common.{Vec, ◌≡◌, ◌++◌, ◌∷◌, [], ◌∙◌, sym, ap, subst, refl, append_assoc, le_refl, le_trans}
use Rattle.ll_laws.specs.Sound.{Every}
use Rattle.ll_core.proofs.CallerLemmas.{every_more}
use Rattle.ll_order.specs.Outlets.{Gives}
use Rattle.ll_order.proofs.Givings.{gives_more, ok_not_err}
use Rattle.ll_order.proofs.outlet.Outlet.events.Goals as goal

pub loop-event-init : goal.loop-event-init
loop-event-init g c =
    let given = ap (map g.Self.Found.Notice.stands_for)
    (c.into_iter-event-iterator.ensures.into_iter_gives.0 ∙ ap (λ (v : Vec _ _). v.items) c.replace-event-items.ensures.value) in (
      record {
        order = sym given;
        given = refl;
        wanted = subst (Every (g.Self.Outlet.welcome c.args.self.now)) (sym given) c.requires;
        faults_kept = le_refl _;
        welcome_kept = λ e. (λ h. h, λ h. h);
      },
      refl,
    )

pub event-requires : goal.event-requires
event-requires g c =
    let i = c.loop-event.invariant.0 in
    (subst (Every (g.Self.Outlet.welcome c.loop-event.self)) (ap (map g.Self.Found.Notice.stands_for) c.in-Some.ensures.steps.0) i.wanted).0

pub loop-event-preserved : goal.loop-event-preserved
loop-event-preserved g c =
    let told = g.Self.Found.Notice.stands_for in
    let i = c.loop-event.invariant.0 in
    let one = told c.in-Some.event ∷ [] in
    let rest = map told c.next.new.self.rest.items in
    let step : map told c.loop-event.event-iterator.rest.items ≡ told c.in-Some.event ∷ rest = ap (map told) c.in-Some.ensures.steps.0 in
    let more = sym (map-append told c.loop-event.yielded (c.in-Some.event ∷ [])) in
    let kept = c.event.ensures.welcome_kept in (
      record {
        order = i.order ∙ (ap (λ l. map told c.loop-event.yielded ++ l) step ∙ (sym (append_assoc (map told c.loop-event.yielded) one rest)
            ∙ ap (λ l. l ++ rest) more));
        given = subst (λ l. Gives g.Self.Outlet.takes c.args.self.now l c.event.new.self) more
            (gives_more g.Self.Outlet.takes g.Self.Outlet.breaks _ _ _ (map told c.loop-event.yielded) one i.given (
              c.event.new.self,
              c.in-Ok.ensures.taken,
              refl,
            ));
        wanted = every_more (g.Self.Outlet.welcome c.loop-event.self) (g.Self.Outlet.welcome c.event.new.self) rest (λ e h. (kept e).0 h)
            (subst (Every (g.Self.Outlet.welcome c.loop-event.self)) step i.wanted).1;
        faults_kept = le_trans i.faults_kept c.event.ensures.faults_kept;
        welcome_kept = λ e. (λ h. (kept e).0 ((i.welcome_kept e).0 h), λ h. (i.welcome_kept e).1 ((kept e).1 h));
      },
      c.in-Ok.ensures.quiet (ok_not_err _ _) ∙ c.loop-event.invariant.1,
    )
