use Rattle.trading.proofs.Entered.{fills, rest_place, rest_fits, serve_place, serve_numbers, entered}
use Rattle.trading.proofs.pit.Pit.enter.Goals as goal

pub rest-requires : goal.rest-requires
rest-requires c =
    let sound = c.args.self.now.book.now.resting.sound in
    let filled = fills c.args.ticket c.args.pricing c.taker_of-taker.ensures c.reach.ensures c.take-left.ensures c.rows-before.ensures c.last_price-last.ensures in
    record {
      room = rest_place filled sound c.requires.place;
      fits = rest_fits filled sound c.requires.numbers c.requires.quotes c.requires.reach;
    }

pub invariant_of-self : goal.invariant_of-self
invariant_of-self c =
    let sound = c.args.self.now.book.now.resting.sound in
    let filled = fills c.args.ticket c.args.pricing c.taker_of-taker.ensures c.reach.ensures c.take-left.ensures c.rows-before.ensures c.last_price-last.ensures in
    record {
      room = serve_place filled c.rest.ensures sound c.requires.room;
      numbers = serve_numbers filled c.rest.ensures c.requires.numbers c.requires.number;
    }

pub returns : goal.returns
returns c =
    let filled = fills c.args.ticket c.args.pricing c.taker_of-taker.ensures c.reach.ensures c.take-left.ensures c.rows-before.ensures c.last_price-last.ensures in
    record {
      did = entered filled c.rest.ensures c.serve.ensures.did;
      same_book = c.serve.ensures.same_book;
      same_roll = c.serve.ensures.same_roll;
    }
