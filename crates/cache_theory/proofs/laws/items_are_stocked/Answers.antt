use Rattle.cache_theory.proofs.Loading.LoadedBack as back
use Rattle.cache_theory.proofs.Loading.StockedShelf as shelf
use Rattle.cache_theory.proofs.Loading.WrittenItems as written
use Rattle.cache_theory.proofs.laws.items_are_stocked.Goals as goal

pub returns-clause-stocked : goal.returns-clause-stocked
returns-clause-stocked c = written.items_are_stocked

pub returns-clause-found : goal.returns-clause-found
returns-clause-found c = shelf.stock_is_found

pub returns-clause-back : goal.returns-clause-back
returns-clause-back c = back.dump_loads_back
