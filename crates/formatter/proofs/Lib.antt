mod Laws
mod Arms
mod Keeping
