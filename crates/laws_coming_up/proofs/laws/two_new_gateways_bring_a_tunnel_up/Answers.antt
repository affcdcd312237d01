use Rattle.effects.specs.Taking.{meaning_of}
use Rattle.laws_coming_up.proofs.BringingLemmas.{in_exchange, meets, meets_not}
use Rattle.laws_coming_up.proofs.laws.two_new_gateways_bring_a_tunnel_up.Goals as goal

pub returns-clause-child : goal.returns-clause-child
returns-clause-child g c one other a b place entry asking answering reading shared p q r s t can one_can other_can are meet =
    let m = meaning_of g.C.Sealer g.C.Agreement g.C.Proof in
    let h = c.two_new_gateways_come_to_keys.ensures one other a b place entry asking answering reading shared p q r can are.opens in
    record {
      opened = h;
      up = c.it_comes_up.ensures.child one other h.opening a b h.auth h.room s t
          (in_exchange m one other a b place entry asking answering reading shared p q r s t h are one_can other_can)
          (meets m one other a b place entry asking answering reading shared p q r s t h meet);
    }

pub returns-clause-childless : goal.returns-clause-childless
returns-clause-childless g c one other a b place entry asking answering reading shared p q r s t can one_can other_can are not_so =
    let m = meaning_of g.C.Sealer g.C.Agreement g.C.Proof in
    let h = c.two_new_gateways_come_to_keys.ensures one other a b place entry asking answering reading shared p q r can are.opens in
    record {
      opened = h;
      up = c.it_comes_up.ensures.childless one other h.opening a b h.auth h.room s t
          (in_exchange m one other a b place entry asking answering reading shared p q r s t h are one_can other_can)
          (meets_not m one other a b place entry asking answering reading shared p q r s t h not_so);
    }
