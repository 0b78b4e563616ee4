use Rattle.std.proofs.Common.{rules}
use Rattle.lanes_geo.proofs.Eight.{eight, lon_again, lat_again}
use Rattle.lanes_geo.proofs.grid.coordinates.Goals as goal

pub returns-clause-coordinates : goal.returns-clause-coordinates
returns-clause-coordinates c =
    let a = lon_again _ _ c.lon.ensures.on_earth c.lon.ensures.lon in
    let b = lat_again _ _ c.lon.ensures.on_earth c.lat.ensures in
    rw (eight c.args.places.now c.args.at _ _ _ _ _ _ _ _ c.requires c.index-places-at.is c.index-places-at-2.is c.index-places-at-3.is
    c.index-places-at-4.is c.index-places-at-5.is c.index-places-at-6.is c.index-places-at-7.is c.index-places-at-8.is)
    (search rules)

pub returns-clause-on_earth : goal.returns-clause-on_earth
returns-clause-on_earth c =
    rw (eight c.args.places.now c.args.at _ _ _ _ _ _ _ _ c.requires c.index-places-at.is c.index-places-at-2.is c.index-places-at-3.is
    c.index-places-at-4.is c.index-places-at-5.is c.index-places-at-6.is c.index-places-at-7.is c.index-places-at-8.is) (
      c.lon.ensures.on_earth,
      (
        c.lon-2.ensures.on_earth,
        (
          c.lon-3.ensures.on_earth,
          (
            c.lon-4.ensures.on_earth,
            (c.lon-5.ensures.on_earth, (c.lon-6.ensures.on_earth, (c.lon-7.ensures.on_earth, (c.lon-8.ensures.on_earth, tt)))),
          ),
        ),
      ),
    )
